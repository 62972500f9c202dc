-- Decoding a frame where it lies: its data comes to begin behind its first code byte.
use Rattle.std.proofs.Common.{◌≡◌, ℕ, ◌+◌, ◌-◌, ◌<◌, ◌≤◌, List, [], ◌∷◌, ◌++◌, length, refl, sym, ap}
use Rattle.std.proofs.Common.{subst, ◌∙◌, append_assoc, arith, length-append, take, drop, get_or, set}
use Rattle.std.specs.Prelude.{flat_map}
use Rattle.std.proofs.lemmas.List.{append-nil, take-append-drop, drop-drop, drop_more, drop_all}
use Rattle.std.proofs.lemmas.List.{length-take-le, length-drop, drop_at, take_at, set_at}
use Rattle.postcard_cobs.specs.Groups.{NoZero, IsGroupData, coded, followed, Groups}
use Rattle.postcard_cobs.proofs.Made.{followed_full, followed_short}
use Rattle.postcard_cobs.proofs.Decoding.{NoZero-drop, NoZero-take, peel, first_fits}

-- A list is itself with a part put in its own place.
pub same_place : (xs : List ℕ) (n at k : ℕ) → at ≡ n
    → xs ≡ take at xs ++ take k (drop n xs) ++ drop (at + k) xs
same_place xs n at k e =
    sym (take-append-drop at xs)
    ∙ ap (λ (x : List ℕ). take at xs ++ x) (sym (take-append-drop k (drop at xs)))
    ∙ ap (λ (x : List ℕ). take at xs ++ (take k (drop at xs) ++ x)) (drop-drop k at xs)
    ∙ sym (append_assoc (take at xs) (take k (drop at xs)) (drop (at + k) xs))
    ∙ ap (λ (i : ℕ). take at xs ++ take k (drop i xs) ++ drop (at + k) xs) e

-- A group put in front of a frame makes a frame of the data with the group and its gap in front.
group_more : (g F e : List ℕ) → IsGroupData g → Groups F e → Groups (coded g ++ F) (followed g ++ e)
group_more g F e is r = record {
  before = g ∷ r.before;
  last = r.last;
  are = (is, r.are);
  is = r.is;
  frame_is = ap (λ (x : List ℕ). coded g ++ x) r.frame_is
      ∙ sym (append_assoc (coded g) (flat_map coded r.before) (coded r.last));
  data_is = ap (λ (x : List ℕ). followed g ++ x) r.data_is
      ∙ sym (append_assoc (followed g) (flat_map followed r.before) r.last);
}

-- An empty list is no frame.
pub not_empty : (F d : List ℕ) → length F ≡ 0 → Groups F d → ⊥
not_empty F d e g =
    let n = ap length g.frame_is in
    absurd (omega (arith, e, n, length-append (flat_map coded g.before) (coded g.last)))

-- The list is made of groups, each after its code byte.
abbrev pub AreCoded : List ℕ → Type 0
AreCoded F = (ks : List (List ℕ)) × (last : List ℕ) × (F ≡ flat_map coded ks ++ coded last)

-- The groups before the place `read` are decoded. Their data, with the gaps, lies behind the first
-- byte of the buffer and ends before the place `written`, and `code` is the next code byte.
pub record Behind (old now : List ℕ) (read written code : ℕ) : Type 0 where
  pub inside : read < length old
  pub behind : written ≤ read + 1
  pub code_is : code ≡ get_or old read 0
  pub first : ℕ
  pub done : List ℕ
  pub now_is : now ≡ (first ∷ done) ++ drop written old
  pub written_is : written ≡ length done + 1
  pub gives : (e : List ℕ) → Groups (drop read old) e → Groups old (done ++ e)
  pub needs : (d : List ℕ) → Groups old d → AreCoded (drop read old)

-- Before the first group nothing is decoded.
pub begins : (old : List ℕ) → 0 < length old → Behind old old 0 1 (get_or old 0 0)
begins old l = record {
  inside = l;
  behind = omega arith;
  code_is = refl;
  first = get_or old 0 0;
  done = [];
  now_is = drop_more old 0 0 l;
  written_is = refl;
  gives = λ e g. g;
  needs = λ d g. (g.before, g.last, g.frame_is);
}

module _ (old now : List ℕ) (read written code : ℕ) (h : Behind old now read written code)
    (no_zero : NoZero old) where
  -- The bytes before those that are left as they were.
  front : List ℕ
  front = h.first ∷ h.done

  front_length : length front ≡ written
  unfolding front
  front_length = let w = h.written_is in omega arith

  -- The buffer keeps its length.
  pub now_length : length now ≡ length old
  unfolding front
  now_length =
      let n = ap length h.now_is in
      let m = length-append front (drop written old) in
      let f = front_length in let i = h.inside in let b = h.behind in
      omega (arith, n, m, length-drop written old)

  -- From the place `written` on, the buffer is unchanged.
  unread : (k : ℕ) → written ≤ k → drop k now ≡ drop k old
  unfolding front
  unread k le =
      let n : length front + (k - written) ≡ k = let f = front_length in omega arith in
      ap (drop k) h.now_is
      ∙ ap (λ (i : ℕ). drop i (front ++ drop written old)) (sym n)
      ∙ sym (drop-drop (k - written) (length front) (front ++ drop written old))
      ∙ ap (drop (k - written)) (drop_at front (drop written old) _ refl)
      ∙ drop-drop (k - written) written old
      ∙ ap (λ (i : ℕ). drop i old) (let m : written + (k - written) ≡ k = omega arith in m)

  -- The rest of the frame begins with the next code byte.
  rest_at : drop read old ≡ code ∷ drop (read + 1) old
  rest_at = drop_more old read 0 h.inside
      ∙ ap (λ (x : ℕ). x ∷ drop (read + 1) old) (sym h.code_is)

  -- The next code byte isn't zero.
  pub code_pos : 0 < code
  code_pos = (subst NoZero rest_at (NoZero-drop read old no_zero)).0

  -- A frame with a group that runs past its end has no data.
  pub refused : length old - read < code → (d : List ℕ) → Groups old d → ⊥
  refused over d g =
      let n = h.needs d g in
      let f = first_fits n.0 n.1 code (drop (read + 1) old) (sym rest_at ∙ n.2) in
      let i = h.inside in
      absurd (omega (arith, f, over, length-drop (read + 1) old))

  module _ (fits : read + code ≤ length old) (byte : code < 256) where
    -- The bytes of the next group.
    group : List ℕ
    group = take (code - 1) (drop (read + 1) old)

    group_length : length group ≡ code - 1
    unfolding group
    group_length = let p = code_pos in
        length-take-le (code - 1) (drop (read + 1) old) (omega (arith, length-drop (read + 1) old))

    group_coded : coded group ≡ code ∷ group
    group_coded = let l = group_length in let p = code_pos in
        let e : length group + 1 ≡ code = omega arith in ap (λ (x : ℕ). x ∷ group) e

    is_group : IsGroupData group
    unfolding group
    is_group = record {
      fits = let l = group_length in omega arith;
      no_zero = NoZero-take _ _ (NoZero-drop (read + 1) old no_zero);
    }

    -- The rest of the frame begins with the next group.
    rest_is : drop read old ≡ coded group ++ drop (read + code) old
    unfolding group
    rest_is =
        let p = code_pos in
        let n : (read + 1) + (code - 1) ≡ read + code = omega arith in
        let cut : drop (read + 1) old ≡ group ++ drop (read + code) old =
        sym (take-append-drop (code - 1) (drop (read + 1) old))
        ∙ ap (λ (x : List ℕ). group ++ x)
        (drop-drop (code - 1) (read + 1) old ∙ ap (λ (i : ℕ). drop i old) n) in
        rest_at ∙ ap (λ (x : List ℕ). code ∷ x) cut
        ∙ ap (λ (x : List ℕ). x ++ drop (read + code) old) (sym group_coded)

    module _ (moved : List ℕ)
        (moved_by : moved ≡ take written now ++ take ((read + code) - (read + 1)) (drop (read + 1) now) ++ drop (written + ((read + code) - (read + 1))) now) where
      -- The place after the next group once it is moved.
      end : ℕ
      end = written + (code - 1)

      more_length : length (front ++ group) ≡ end
      unfolding end
      more_length = let f = front_length in let l = group_length in
          length-append front group ∙ omega (arith, f, l)

      -- The content of the buffer once the next group is moved.
      moved_is : moved ≡ (front ++ group) ++ drop end old
      unfolding group end front
      moved_is =
          let p = code_pos in let w = h.behind in
          let m : (read + code) - (read + 1) ≡ code - 1 = omega arith in
          let a : take written now ≡ front =
          ap (take written) h.now_is ∙ take_at front (drop written old) written front_length in
          let b : take (code - 1) (drop (read + 1) now) ≡ group =
          ap (take (code - 1)) (unread (read + 1) (omega arith)) in
          let c : drop (written + (code - 1)) now ≡ drop (written + (code - 1)) old =
          unread (written + (code - 1)) (omega arith) in
          moved_by
          ∙ ap (λ (k : ℕ). take written now ++ take k (drop (read + 1) now) ++ drop (written + k) now) m
          ∙ ap (λ (x : List ℕ). x ++ take (code - 1) (drop (read + 1) now) ++ drop (written + (code - 1)) now) a
          ∙ ap (λ (x : List ℕ). front ++ x ++ drop (written + (code - 1)) now) b
          ∙ ap (λ (x : List ℕ). front ++ group ++ x) c

      -- The buffer keeps its length when the next group is moved.
      pub moved_length : length moved ≡ length old
      unfolding end
      moved_length =
          let p = code_pos in let b = h.behind in let i = h.inside in
          let n = ap length moved_is in
          let m = length-append (front ++ group) (drop end old) in
          let l = more_length in
          omega (arith, n, m, l, length-drop end old)

      -- A group that ends the frame completes its data.
      pub decoded : read + code ≡ length old
          → Groups old (take (written + (code - 1) - 1) (drop 1 moved))
      unfolding end front
      decoded last =
          let none : drop (read + code) old ≡ [] = drop_all (read + code) old (omega arith) in
          let one : Groups (drop read old) group = record {
            before = [];
            last = group;
            are = tt;
            is = is_group;
            frame_is = rest_is ∙ ap (λ (x : List ℕ). coded group ++ x) none
                ∙ append-nil (coded group);
            data_is = refl;
          } in
          let l = more_length in
          let n : length (h.done ++ group) ≡ written + (code - 1) - 1 =
          omega (arith, l, length-append (h.first ∷ h.done) group, length-append h.done group) in
          let lies : take (written + (code - 1) - 1) (drop 1 moved) ≡ h.done ++ group =
          ap (λ (x : List ℕ). take (written + (code - 1) - 1) (drop 1 x)) moved_is
          ∙ take_at (h.done ++ group) (drop (written + (code - 1)) old) _ n in
          subst (λ (x : List ℕ). Groups old x) (sym lies) (h.gives group one)

      module _ (lt : read + code < length old) where
        -- What follows the next group is made of groups if the frame is.
        needs_on : (d : List ℕ) → Groups old d → AreCoded (drop (read + code) old)
        needs_on d g =
            let n = h.needs d g in
            let e : flat_map coded (group ∷ []) ++ drop (read + code) old ≡ flat_map coded n.0 ++ coded n.1 =
            ap (λ (x : List ℕ). x ++ drop (read + code) old) (append-nil (coded group))
            ∙ sym rest_is ∙ n.2 in
            let p = peel (group ∷ []) n.0 n.1 (drop (read + code) old)
            (omega (arith, length-drop (read + code) old)) e in
            (p.0, n.1, p.1)

        -- The data so far, with the next group and its gap, and then that of the rest.
        gives_on : (gap e : List ℕ) → followed group ≡ group ++ gap → Groups (drop (read + code) old) e
            → Groups old ((h.done ++ group ++ gap) ++ e)
        gives_on gap e f r =
            let g = subst (λ (x : List ℕ). Groups x (followed group ++ e)) (sym rest_is)
            (group_more group (drop (read + code) old) e is_group r) in
            let all = h.gives (followed group ++ e) g in
            let same : h.done ++ (followed group ++ e) ≡ (h.done ++ group ++ gap) ++ e =
            ap (λ (x : List ℕ). h.done ++ (x ++ e)) f ∙ sym (append_assoc h.done (group ++ gap) e)
            ∙ ap (λ (x : List ℕ). x ++ e) (sym (append_assoc h.done group gap)) in
            subst (λ (x : List ℕ). Groups old x) same all

        -- The code byte after the next group isn't changed yet.
        pub next_code : get_or moved (read + code) 0 ≡ get_or old (read + code) 0
        unfolding end
        next_code =
            let p = code_pos in let b = h.behind in
            let n : length (front ++ group) + (read + code - end) ≡ read + code = let l = more_length in omega arith in
            let d : drop (read + code) moved ≡ drop (read + code) old =
            ap (drop (read + code)) moved_is
            ∙ ap (λ (i : ℕ). drop i ((front ++ group) ++ drop end old)) (sym n)
            ∙ sym (drop-drop (read + code - end) (length (front ++ group)) ((front ++ group) ++ drop end old))
            ∙ ap (drop (read + code - end)) (drop_at (front ++ group) (drop end old) _ refl)
            ∙ drop-drop (read + code - end) end old
            ∙ ap (λ (i : ℕ). drop i old) (let m : end + (read + code - end) ≡ read + code = omega arith in m) in
            let m = moved_length in
            let a = drop_more moved (read + code) 0 (omega arith) in
            let b = drop_more old (read + code) 0 lt in
            ap (λ (x : List ℕ). get_or x 0 0) (sym a ∙ d ∙ b)

        -- After a full group.
        pub on_full : code ≡ 255
            → Behind old moved (read + code) (written + (code - 1)) (get_or moved (read + code) 0)
        unfolding end front
        on_full full =
            let p = code_pos in let b = h.behind in let l = group_length in let w = h.written_is in
            let f : followed group ≡ group ++ [] = followed_full group (omega arith) ∙ sym (append-nil group) in
            let n : h.done ++ group ++ [] ≡ h.done ++ group = append-nil (h.done ++ group) in
            record {
              inside = lt;
              behind = omega arith;
              code_is = next_code;
              first = h.first;
              done = h.done ++ group;
              now_is = moved_is;
              written_is = omega (arith, length-append h.done group);
              gives = λ e r. subst (λ (x : List ℕ). Groups old (x ++ e)) n (gives_on [] e f r);
              needs = needs_on;
            }

        -- After any other group, once a zero is added.
        pub on_short : (code ≡ 255 → ⊥)
            → Behind old (set moved (written + (code - 1)) 0) (read + code)
            (written + (code - 1) + 1) (get_or moved (read + code) 0)
        unfolding end front
        on_short short =
            let p = code_pos in let b = h.behind in let l = group_length in let w = h.written_is in
            let f : followed group ≡ group ++ 0 ∷ [] =
            followed_short group (λ e. short (omega arith)) in
            let there : written + (code - 1) < length old = omega arith in
            record {
              inside = lt;
              behind = omega arith;
              code_is = next_code;
              first = h.first;
              done = h.done ++ group ++ 0 ∷ [];
              now_is =
                  ap (λ (x : List ℕ). set x (written + (code - 1)) 0)
                  (moved_is ∙ ap (λ (x : List ℕ). (front ++ group) ++ x) (drop_more old (written + (code - 1)) 0 there))
                  ∙ set_at (front ++ group) (get_or old (written + (code - 1)) 0) (drop (written + (code - 1) + 1) old) 0 (written + (code - 1)) more_length
                  ∙ sym (append_assoc (front ++ group) (0 ∷ []) (drop (written + (code - 1) + 1) old));
              written_is = omega (arith, length-append (h.done ++ group) (0 ∷ []), length-append h.done group);
              gives = λ e r. gives_on (0 ∷ []) e f r;
              needs = needs_on;
            }
