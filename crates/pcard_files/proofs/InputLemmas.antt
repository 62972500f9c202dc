-- The file of input that the operands of a call name.
use Rattle.std.proofs.Common.{◌≡◌, ℕ, true, false, Option, Some, None, Bor, List, [], ◌∷◌, length, get_or, map, sym, ap, ◌∙◌, subst, arith, lit<, true≢false}
use Rattle.std.specs.Prelude.{MatchOption, IfSome, IfNone}
use Rattle.std.specs.Str.Pattern.{FindsCharPrefix, StripsPrefix}
use Rattle.std.proofs.lemmas.Str.Pattern.{strip_prefix_char}
use Rattle.pcard_call.specs.declared.verb.Verb.{Verb}
use Rattle.pcard_call.specs.Options.{Given}
use Rattle.pcard_call.specs.Calls.{Words, IsCall}
use Rattle.pcard_files.specs.Operands.{reads_bytes, NamesInput, IsOnlyCall}

-- The contract of `strip_prefix` for the character `@` (64).
abbrev pub StripsAt : List ℕ → Option (Bor (List ℕ)) → Type 0
StripsAt word r = MatchOption r (FindsCharPrefix 64 word None) (λ x. StripsPrefix (FindsCharPrefix 64) word x.now)

-- A list of two words is some word and the one that is found at index 1.
pub two_words : {A : Type 0} (f : A → List ℕ) (xs : List A) (b : A) → length xs ≡ 2 → b ≡ get_or xs 1 b → (kind : List ℕ) × (map f xs ≡ kind ∷ f b ∷ [])
two_words f [] b n i = absurd (omega arith)
two_words f (x ∷ []) b n i = absurd (omega arith)
two_words f (x ∷ y ∷ []) b n i = (f x, cc)
two_words f (x ∷ y ∷ z ∷ xs) b n i = absurd (omega arith)

-- If a call with `--raw` of a verb that reads bytes has two operands, and the second is `@` and a name, it names that file.
pub names_file : (words operands : Words) (verb : Verb) (given : Given) (kind input : List ℕ) (r : Option (Bor (List ℕ))) → IsCall words verb given operands
    → given.raw ≡ true → reads_bytes verb ≡ true → operands ≡ kind ∷ input ∷ [] → StripsAt input r → IfSome r (λ name. NamesInput words name.now)
names_file words operands verb given kind input None call raw reads all strips = tt
names_file words operands verb given kind input (Some x) call raw reads all strips =
    let named : input ≡ 64 ∷ x.now = strip_prefix_char 64 input (Some x) strips (lit< tt) in
    record {
      verb = verb;
      given = given;
      kind = kind;
      call = subst (IsCall words verb given) (all ∙ ap (λ w. kind ∷ w ∷ []) named) call;
      reads = reads;
      raw = raw;
    }

-- If the second of its two operands doesn't begin with `@`, the call names no file.
pub names_none : (words operands : Words) (verb : Verb) (given : Given) (kind input : List ℕ) (r : Option (Bor (List ℕ))) → IsOnlyCall words verb given operands
    → operands ≡ kind ∷ input ∷ [] → StripsAt input r → IfNone r ((file : List ℕ) → NamesInput words file → ⊥)
names_none words operands verb given kind input (Some x) only all strips = tt
names_none words operands verb given kind input None only all strips =
    λ file names. strip_prefix_char 64 input None strips (lit< tt) file (ap (λ ws. get_or ws 1 []) (sym all ∙ (only _ _ _ names.call).2))

-- A call without `--raw` names no file of input.
pub without_raw : (words operands : Words) (verb : Verb) (given : Given) → IsOnlyCall words verb given operands → given.raw ≡ false → (file : List ℕ) → NamesInput words file → ⊥
without_raw words operands verb given only plain file names = true≢false (sym names.raw ∙ ap (λ g. g.raw) (sym (only _ _ _ names.call).1) ∙ plain)

-- A call of a verb that reads no bytes names no file of input.
pub without_bytes : (words operands : Words) (verb : Verb) (given : Given) → IsOnlyCall words verb given operands → reads_bytes verb ≡ false → (file : List ℕ)
    → NamesInput words file → ⊥
without_bytes words operands verb given only none file names = true≢false (sym names.reads ∙ ap reads_bytes (sym (only _ _ _ names.call).0) ∙ none)

-- A call that doesn't have two operands names no file of input.
pub without_operand : {A : Type 0} (f : A → List ℕ) (xs : List A) (words : Words) (verb : Verb) (given : Given) → IsOnlyCall words verb given (map f xs)
    → (length xs ≡ 2 → ⊥) → (file : List ℕ) → NamesInput words file → ⊥
without_operand f [] words verb given only other file names = let e = ap length (only _ _ _ names.call).2 in absurd (omega (arith, e))
without_operand f (x ∷ []) words verb given only other file names = let e = ap length (only _ _ _ names.call).2 in absurd (omega (arith, e))
without_operand f (x ∷ y ∷ []) words verb given only other file names = other (omega arith)
without_operand f (x ∷ y ∷ z ∷ xs) words verb given only other file names = let e = ap length (only _ _ _ names.call).2 in absurd (omega (arith, e))
