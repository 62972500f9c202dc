-- The two loops of reading: over the feeds of a piece, and over the reads.
use Rattle.std.proofs.Common.{◌≡◌, ℕ, ◌+◌, ◌-◌, ◌*◌, ◌<◌, ◌≤◌, inl, inr, List, [], ◌∷◌, ◌++◌}
use Rattle.std.proofs.Common.{length, refl, sym, ap, subst, ◌∙◌, append_assoc, arith, length-append}
use Rattle.std.proofs.Common.{take, drop}
use Rattle.std.proofs.lemmas.List.{append-nil, take_all, length-take-le, take-append-drop, take_at}
use Rattle.std.proofs.Math.Nat.{mul-le-mul_right}
use Rattle.std.specs.Prelude.{Option}
use Rattle.std.specs.Io.KnownBytes.{Consumes, Keeps}
use Rattle.std.proofs.KnownBytes.{Consumes-nil, Consumes-trans, Consumes-kept}
use Rattle.postcard_cobs.specs.Groups.{NoZero}
use Rattle.postcard_accumulator.specs.State.{State, holding, skipping, held_of}
use Rattle.postcard_accumulator.specs.Feeding.{IsFed, IsFedHolding, EndsFitting}
use Rattle.postcard_accumulator.specs.Streams.{Answers, answers_of, left_of}
use Rattle.postcard_accumulator.specs.Reading.{IsFedAll, IsReading, unfed, EndsWell}
use Rattle.postcard_accumulator.specs.declared.answers.FeedResult.{FeedResult}
use Rattle.postcard_accumulator.specs.declared.answers.FeedResult.TheVariants.{Consumed}
use Rattle.postcard_accumulator.specs.declared.answers.FeedResult.TheVariants as fed
use Rattle.postcard_accumulator.specs.declared.answers.Answer.{Answer}
use Rattle.postcard_accumulator.specs.declared.reading.ReadEnd.{ReadEnd}
use Rattle.postcard_accumulator.specs.declared.reading.ReadEnd.TheVariants.{OutOfMemory}
use Rattle.postcard_accumulator.proofs.Feeding.{feeds_law}
use Rattle.postcard_accumulator.proofs.Joining.{joined_law}

module _ {T : Type 0} (n : ℕ) (own : List ℕ → Answer T → Type 0) where
  -- No bytes have no answers.
  nothing_fed : (c : State) → NoZero (held_of c) → length (held_of c) ≤ n
      → Answers n own c [] [] c
  nothing_fed (holding h) zh room = rw (append-nil h) (record {
    frames = [];
    rest = h;
    split = record { is = refl; frames_zero_free = tt; rest_zero_free = zh };
    parts = [];
    each = tt;
    fits = λ l. (refl, refl);
    over = λ l. absurd (omega arith);
  })
  nothing_fed skipping zh room = inl (tt, refl, refl)

  -- The state within a piece: the bytes fed so far, the answers to them, and the bytes left.
  pub record AtWindow (before : State) (piece : List ℕ) (old now : List (Answer T)) (after : State)
      (window : List ℕ) : Type 0 where
    pub eaten : List ℕ
    pub cut : piece ≡ eaten ++ window
    pub answers : List (Answer T)
    pub items : now ≡ old ++ answers
    pub is : Answers n own before eaten answers after

  pub at_start : (c : State) (piece : List ℕ) (old : List (Answer T)) → NoZero (held_of c)
      → length (held_of c) ≤ n → AtWindow c piece old old c piece
  at_start c piece old zh room =
      record {
        eaten = [];
        cut = refl;
        answers = [];
        items = sym (append-nil old);
        is =
            nothing_fed c zh room;
      }

  pub at_next : (c : State) (piece : List ℕ) (old now : List (Answer T)) (h k : State) (w : List ℕ)
      (r : FeedResult T) → NoZero (held_of h) →
      AtWindow c piece old now h w → IsFed n own h w r k
      → AtWindow c piece old (now ++ answers_of r) k (left_of r)
  at_next c piece old now h k w r zh p fed =
      let f = feeds_law n own h k w r zh fed in
      record {
        eaten = p.eaten ++ f.0;
        cut = p.cut ∙ ap (λ (x : List ℕ). p.eaten ++ x) f.1
            ∙ sym (append_assoc p.eaten f.0 (left_of r));
        answers = p.answers ++ answers_of r;
        items = ap (λ (x : List (Answer T)). x ++ answers_of r) p.items
            ∙ append_assoc old p.answers (answers_of r);
        is = joined_law n own c h k p.eaten f.0 p.answers (answers_of r) p.is f.2;
      }

  pub at_end : (c : State) (piece : List ℕ) (old now : List (Answer T)) (after : State)
      (window : List ℕ) (left : ℕ) → left ≡ length window → AtWindow c piece old now after window →
      IsFedAll n own c piece old now after left
  at_end c piece old now after window left e p =
      let l = ap length p.cut ∙ length-append p.eaten window in
      let m : length p.eaten ≡ length piece - left = omega arith in
      let t : take (length piece - left) piece ≡ p.eaten = ap (take (length piece - left)) p.cut
      ∙ take_at p.eaten window (length piece - left) m in
      record { within = omega arith; answers = p.answers; items = p.items; is = rw t p.is }

  -- A feed that ends a frame takes at least one byte of the piece.
  ends_shorter : (h w q rest : List ℕ) → EndsFitting n h w q rest → length rest < length w
  ends_shorter h w q rest f = let l = ap length f.0.1 ∙ length-append q (0 ∷ rest) in omega arith

  -- A feed of a piece that isn't empty leaves fewer bytes than the piece has.
  shorter_held : (h w : List ℕ) (r : FeedResult T) (k : State) → 0 < length w
      → IsFedHolding n own h w r k → length (left_of r) < length w
  shorter_held h w Consumed k some f = some
  shorter_held h w (fed.OverFull rest) k some (inl f) = let l = ap length f.1.1
      ∙ length-append f.0 (0 ∷ rest.now) in omega arith
  shorter_held h w (fed.OverFull rest) k some (inr f) = let l = ap length f.2 in omega arith
  shorter_held h w (fed.DeserError rest) k some f = ends_shorter h w f.0 rest.now f.1
  shorter_held h w (fed.Success v rest) k some f = ends_shorter h w f.0 rest.now f.1

  left_within : (h w : List ℕ) (r : FeedResult T) (k : State) → IsFedHolding n own h w r k
      → length (left_of r) ≤ length w
  left_within h w Consumed k f = omega arith
  left_within h w (fed.OverFull rest) k (inl f) = let l = ap length f.1.1
      ∙ length-append f.0 (0 ∷ rest.now) in omega arith
  left_within h w (fed.OverFull rest) k (inr f) = let l = ap length f.2 in omega arith
  left_within h w (fed.DeserError rest) k f = let l = ends_shorter h w f.0 rest.now f.1 in
      omega arith
  left_within h w (fed.Success v rest) k f = let l = ends_shorter h w f.0 rest.now f.1 in
      omega arith

  pub shorter : (c : State) (w : List ℕ) (r : FeedResult T) (k : State) → 0 < length w
      → IsFed n own c w r k → length (left_of r) < length w
  shorter (holding h) w r k some f = shorter_held h w r k some f
  shorter skipping w r k some (inl f) = rw f.1 some
  shorter skipping w r k some (inr f) = let l = ap length f.2.1 ∙ length-append f.0 (0 ∷ f.1) in
      let m = left_within [] f.1 r k f.3 in omega arith

  -- The state between reads: `count` reads were made, and all bytes read were fed.
  pub record ReadSoFar (from now : Option (List ℕ)) (before after : State)
      (old new : List (Answer T)) (count size : ℕ) : Type 0 where
    pub given : List ℕ
    pub reader : Consumes from now given
    pub answers : List (Answer T)
    pub items : new ≡ old ++ answers
    pub is : Answers n own before given answers after
    pub at_most : length given ≤ count * size
    pub at_least : count ≤ length given

  pub no_read : (from : Option (List ℕ)) (c : State) (old : List (Answer T)) (size : ℕ)
      → NoZero (held_of c) → length (held_of c) ≤ n → ReadSoFar from from c c old old 0 size
  no_read from c old size zh room = record {
    given = [];
    reader = Consumes-nil from;
    answers = [];
    items = sym (append-nil old);
    is = nothing_fed c zh room;
    at_most = omega arith;
    at_least = omega arith;
  }

  module _ (from now next : Option (List ℕ)) (c after later : State)
      (old new newer : List (Answer T)) (count size : ℕ)
      (p : ReadSoFar from now c after old new count size)
      (piece : List ℕ) (left : ℕ) (f : IsFedAll n own after piece new newer later left)
      (g : Consumes now next piece) where
    -- The answers so far, with those of the bytes fed of the piece, are answers of all these bytes.
    goes_on : Answers n own c (p.given ++ take (length piece - left) piece)
        (p.answers ++ f.answers) later
    goes_on = joined_law n own c after later p.given
        (take (length piece - left) piece) p.answers f.answers p.is f.is

    items_on : newer ≡ old ++ (p.answers ++ f.answers)
    items_on = f.items ∙ ap (λ (x : List (Answer T)). x ++ f.answers) p.items
        ∙ append_assoc old p.answers f.answers

    -- After a read whose bytes were all fed, the state between reads holds again.
    pub read_on : left ≡ 0 → 0 < length piece → length piece ≤ size
        → ReadSoFar from next c later old newer (count + 1) size
    read_on none some fits =
        let k : length piece - left ≡ length piece = omega arith in
        let t : take (length piece - left) piece ≡ piece =
        take_all (length piece - left) piece (omega arith) in
        let l = length-append p.given piece in
        let m = p.at_most in let o = p.at_least in
        let s : (count + 1) * size ≡ count * size + size = omega arith in
        record {
          given = p.given ++ piece;
          reader = Consumes-trans from now next p.given piece p.reader g;
          answers = p.answers ++ f.answers;
          items = items_on;
          is = rw t at goes_on;
          at_most = omega arith;
          at_least = omega arith;
        }

    -- After a read whose last bytes weren't fed, the loop ends with `OutOfMemory`.
    pub read_stopped : (reads to at : ℕ) (chunk : List ℕ) → count < reads → 0 < left → to
        ≤ length chunk → piece ≡ take to chunk → at ≡ to - left → length chunk ≡ size →
        IsReading n own reads from next chunk c later old newer (OutOfMemory at to)
    read_stopped reads to at chunk more some within e from_is len =
        let l = length-append p.given piece in
        let m = p.at_most in
        let lp : length piece ≡ to = ap length e ∙ length-take-le to chunk within in
        let low = f.within in
        let s : (count + 1) * size ≡ count * size + size = omega arith in
        let mono = mul-le-mul_right size more1 in
        let un : drop (length piece - left) piece ≡ drop at (take to chunk) =
        ap (λ (x : List ℕ). drop (length piece - left) x) e
        ∙ ap (λ (k : ℕ). drop k (take to chunk))
        (let y : length piece - left ≡ at = omega arith in y) in
        record {
          given = p.given ++ piece;
          reader = Consumes-trans from now next p.given piece p.reader g;
          fed = p.given ++ take (length piece - left) piece;
          all = ap (λ (x : List ℕ). p.given ++ x)
              (sym (take-append-drop (length piece - left) piece))
              ∙ sym (append_assoc p.given (take (length piece - left) piece)
              (drop (length piece - left) piece))
              ∙ ap (λ (x : List ℕ). (p.given ++ take (length piece - left) piece) ++ x) un;
          answers = p.answers ++ f.answers;
          items = items_on;
          is = goes_on;
          at_most = rw len (omega (arith, mono));
          ends = (omega arith, within);
        } where
          more1 : count + 1 ≤ reads
          more1 = omega arith

  -- The loop may end between reads: all bytes read were fed.
  pub read_ended : (from now : Option (List ℕ)) (c after : State) (old new : List (Answer T))
      (count size reads : ℕ) (chunk : List ℕ) (e : ReadEnd)
      → ReadSoFar from now c after old new count size →
      unfed chunk e ≡ [] → count ≤ reads → length chunk ≡ size
      → ((k : ℕ) → count ≤ k → EndsWell reads k chunk e) →
      IsReading n own reads from now chunk c after old new e
  read_ended from now c after old new count size reads chunk e p none more len well =
      let mono = mul-le-mul_right size more in
      let m = p.at_most in
      record {
        given = p.given;
        reader = p.reader;
        fed = p.given;
        all = sym (append-nil p.given) ∙ ap (λ (x : List ℕ). p.given ++ x) (sym none);
        answers = p.answers;
        items = p.items;
        is = p.is;
        at_most = rw len (omega (arith, mono));
        ends = well (length p.given) p.at_least;
      }

  -- A read that returned no bytes or failed changes nothing.
  pub read_nothing : (from now next : Option (List ℕ)) (c after : State) (old new : List (Answer T))
      (count size : ℕ) →
      ReadSoFar from now c after old new count size → Consumes now next []
      → ReadSoFar from next c after old new count size
  read_nothing from now next c after old new count size p g = record {
    given = p.given;
    reader = subst (λ (x : List ℕ). Consumes from next x) (append-nil p.given)
        (Consumes-trans from now next p.given [] p.reader g);
    answers = p.answers;
    items = p.items;
    is = p.is;
    at_most = p.at_most;
    at_least = p.at_least;
  }

  pub read_failed : (from now next : Option (List ℕ)) (c after : State) (old new : List (Answer T))
      (count size : ℕ) →
      ReadSoFar from now c after old new count size → Keeps now next
      → ReadSoFar from next c after old new count size
  read_failed from now next c after old new count size p k = record {
    given = p.given;
    reader = Consumes-kept from now next p.given p.reader k;
    answers = p.answers;
    items = p.items;
    is = p.is;
    at_most = p.at_most;
    at_least = p.at_least;
  }
