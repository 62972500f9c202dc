-- A type serves another if its parts serve the other's parts.
use Rattle.std.proofs.Common.{◌≡◌, ℕ, zero, suc, lit<, lit≤, inl, inr, List, [], ◌∷◌, ◌++◌, refl, sym, ap, ap₂, subst, ◌∙◌, arith}
use Rattle.postcard_wire.specs.Number.{SpellsNum}
use Rattle.postcard_wire.specs.Tree.{Tree, Trees, Absent, Present, Group, Seq, Variant, NoTrees, Then, count}
use Rattle.postcard_wire.specs.Reading.{IsOption, IsGroup, IsSeq, IsArray, IsVariant, Each}
use Rattle.postcard_wire.specs.Spelling.{Spells, SpellsAll}
use Rattle.postcard_schema.specs.Meaning.{MessageType, MessageTypes, choice, group, no_types, option, then_type}
use Rattle.postcard_compat.specs.Said.{Word, Saying, Count, Index, End, said, said_all, each_said, elements_said, option_said, list_said, array_said, group_said, choice_said}
use Rattle.postcard_compat.specs.Serving.{SetServes, RowServes, Serves, AllServe, VariantsServe}

-- Serving is reflexive, for any set of trees.
pub itself : (P : Tree → Type 0) (f : Saying) → SetServes P f P f
itself P f t r = (t, r, refl, λ p k. k)

-- Serving is transitive, for any sets of trees.
pub through : (P : Tree → Type 0) (f : Saying) (Q : Tree → Type 0) (g : Saying) (R : Tree → Type 0) (h : Saying) → SetServes P f Q g → SetServes Q g R h → SetServes P f R h
through P f Q g R h one two t r =
    let (s, q, same, spelled) = two t r in
    let (u, p, again, more) = one s q in
    (u, p, again ∙ same, λ l k. more l (spelled l k))

module _ (P : Tree → Type 0) (f : Saying) (Q : Tree → Type 0) (g : Saying) (h : SetServes P f Q g) where
  pub option_serves : SetServes (IsOption P) (option_said f) (IsOption Q) (option_said g)
  option_serves t (inl e) = (Absent, inl refl, sym (ap (option_said g) e), λ p k. rw e at k)
  option_serves t (inr (u, e, q)) =
      let (s, r, same, spelled) = h u q in
      let says : option_said f (Present s) ≡ option_said g (Present u) = ap (λ (ws : List Word). Index 1 ∷ (ws ++ End ∷ [])) same in
      (Present s, inr (s, refl, r), says ∙ sym (ap (option_said g) e), λ p k. let l : Spells (Present u) p = rw e at k in (l.0, l.1, l.2, spelled l.1 l.3, l.4))

  pub each_serve : (ts : Trees) → Each Q ts → (ss : Trees) × Each P ss × (count ss ≡ count ts) × (each_said f ss ≡ each_said g ts) × (elements_said f ss ≡ elements_said g ts) × ((p : List ℕ) → SpellsAll ts p → SpellsAll ss p)
  each_serve NoTrees q = (NoTrees, tt, refl, refl, refl, λ p k. k)
  each_serve (Then t ts) q =
      let (s, r, same, spelled) = h t q.0 in
      let (ss, rs, many, sames, also, all) = each_serve ts q.1 in (
        Then s ss,
        (r, rs),
        ap (λ n. suc n) many,
        ap₂ (λ (a b : List Word). a ++ End ∷ b) same sames,
        ap₂ (λ (a b : List Word). a ++ b) same also,
        λ p k. (k.0, k.1, spelled k.0 k.2, all k.1 k.3, k.4),
      )

  pub seq_serves : SetServes (IsSeq P) (list_said f) (IsSeq Q) (list_said g)
  seq_serves t (ts, e, few, q) =
      let (ss, rs, many, same, also, all) = each_serve ts q in
      let says : list_said f (Seq ss) ≡ list_said g (Seq ts) = ap₂ (λ (n : ℕ) (ws : List Word). Count n ∷ ws) many same in (
        Seq ss,
        (ss, refl, omega (arith, few, many), rs),
        says ∙ sym (ap (list_said g) e),
        λ p k. let l : Spells (Seq ts) p = rw e at k in (l.0, l.1, subst (λ n. SpellsNum 64 n l.0) (sym many) l.2, all l.1 l.3, l.4),
      )

  pub array_serves : (n : ℕ) → SetServes (IsArray n P) (array_said f) (IsArray n Q) (array_said g)
  array_serves n t (ts, e, is, q) =
      let (ss, rs, many, sames, same, all) = each_serve ts q in
      let says : array_said f (Group ss) ≡ array_said g (Group ts) = same in
      (Group ss, (ss, refl, many ∙ is, rs), says ∙ sym (ap (array_said g) e), λ p k. let l : Spells (Group ts) p = rw e at k in all p l)

-- A group serves a group if its parts do.
pub group_serves : (P : Trees → Type 0) (f : Trees → List Word) (Q : Trees → Type 0) (g : Trees → List Word) → RowServes P f Q g → SetServes (IsGroup P) (group_said f) (IsGroup Q) (group_said g)
group_serves P f Q g h t (ts, e, q) =
    let (ss, r, same, all) = h ts q in
    let says : group_said f (Group ss) ≡ group_said g (Group ts) = same in
    (Group ss, (ss, refl, r), says ∙ sym (ap (group_said g) e), λ p k. let l : Spells (Group ts) p = rw e at k in all p l)

-- An enum serves an enum if each variant serves the one at its index.
pub choice_serves : (P : ℕ → Tree → Type 0) (f : ℕ → Saying) (Q : ℕ → Tree → Type 0) (g : ℕ → Saying) → ((i : ℕ) → SetServes (P i) (f i) (Q i) (g i)) → SetServes (IsVariant P) (choice_said f) (IsVariant Q) (choice_said g)
choice_serves P f Q g h t (i, u, e, few, q) =
    let (s, r, same, spelled) = h i u q in
    let says : choice_said f (Variant i s) ≡ choice_said g (Variant i u) = ap (λ (ws : List Word). Index i ∷ (ws ++ End ∷ [])) same in
    (Variant i s, (i, s, refl, few, r), says ∙ sym (ap (choice_said g) e), λ p k. let l : Spells (Variant i u) p = rw e at k in (l.0, l.1, l.2, spelled l.1 l.3, l.4))

-- An enum whose first variant has no bytes serves an option, if its second variant serves the value.
zero_spelled : SpellsNum 32 0 (0 ∷ [])
zero_spelled = record { digits = omega arith; count = lit≤ tt; value = refl }

-- The number 1 is encoded as one byte.
one_spelled : SpellsNum 32 1 (1 ∷ [])
one_spelled = record { digits = omega arith; count = lit≤ tt; value = refl }

-- An enum serves an option if its first two variants serve no value and the value.
pub choice_serves_option : (a b x : MessageType) (more : MessageTypes) → Serves a (group no_types) → Serves b x
    → Serves (choice (then_type a (then_type b more))) (option x)
choice_serves_option a b x more h k t (inl e) =
    let (s, r, same, spelled) = h (Group NoTrees) (NoTrees, refl, refl) in
    let variants = then_type a (then_type b more) in
    let says : said (choice variants) (Variant 0 s) ≡ said (option x) Absent = ap (λ (ws : List Word). Index 0 ∷ (ws ++ End ∷ [])) same in (
      Variant 0 s,
      (0, s, refl, lit< tt, r),
      says ∙ sym (ap (said (option x)) e),
      λ p l. let m : Spells Absent p = rw e at l in (0 ∷ [], [], zero_spelled, spelled [] refl, m),
    )
choice_serves_option a b x more h k t (inr (u, e, q)) =
    let (s, r, same, spelled) = k u q in
    let variants = then_type a (then_type b more) in
    let says : said (choice variants) (Variant 1 s) ≡ said (option x) (Present u) = ap (λ (ws : List Word). Index 1 ∷ (ws ++ End ∷ [])) same in (
      Variant 1 s,
      (1, s, refl, lit< tt, r),
      says ∙ sym (ap (said (option x)) e),
      λ p l. let m : Spells (Present u) p = rw e at l in (m.0, m.1, subst (SpellsNum 32 1) (sym m.2) one_spelled, spelled m.1 m.3, m.4),
    )

-- A row without parts serves one without parts.
pub end_serves : AllServe no_types no_types
end_serves ts e = (NoTrees, refl, refl, λ p k. rw e at k)

-- A row serves another if its first part and the parts after it do.
pub then_serves : (n o : MessageType) (ns os : MessageTypes) → Serves n o → AllServe ns os → AllServe (then_type n ns) (then_type o os)
then_serves n o ns os h hs ts (u, us, e, q, qs) =
    let (s, r, same, spelled) = h u q in
    let (ss, rs, sames, all) = hs us qs in
    let says : said_all (then_type n ns) (Then s ss) ≡ said_all (then_type o os) (Then u us) = ap₂ (λ (a b : List Word). a ++ b) same sames in
    (Then s ss, (s, ss, refl, r, rs), says ∙ sym (ap (said_all (then_type o os)) e), λ p k. let l : SpellsAll (Then u us) p = rw e at k in (l.0, l.1, spelled l.0 l.2, all l.1 l.3, l.4))

-- An enum without variants is served by any enum.
pub none_serve : (ns : MessageTypes) → VariantsServe ns no_types
none_serve ns i t r = absurd r

-- The same of variants.
pub variant_serves : (n o : MessageType) (ns os : MessageTypes) → Serves n o → VariantsServe ns os → VariantsServe (then_type n ns) (then_type o os)
variant_serves n o ns os h hs zero = h
variant_serves n o ns os h hs (suc i) = hs i
