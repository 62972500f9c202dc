-- Where the operands of a call begin, and so at which index its word TYPE is. Words are one call only, so TYPE is at one index.
use Rattle.std.proofs.Common.{◌≡◌, ℕ, ◌+◌, ◌<◌, ◌≤◌, true, false, Option, Some, List, [], ◌∷◌, length, map, sym, ap, subst, ◌∙◌, arith, true≢false}
use Rattle.std.specs.Prelude.{slice_get, ◌==◌}
use Rattle.std.proofs.Math.Dec.{eqb-suc-zero}
use Rattle.std.proofs.lemmas.Option.{same_Some}
use Rattle.pcard_call.specs.declared.verb.Verb.{Verb}
use Rattle.pcard_call.specs.Options.{Given}
use Rattle.pcard_call.specs.Calls.{Words, IsCall, OptionsThen, at_end, at_operand, switch, valued}
use Rattle.pcard_files.specs.Call.{NamesType}
use Rattle.pcard_files.specs.Operands.{takes_type, IsTypeAt, IsOnlyCall}
use Rattle.pcard_files.specs.TypeName.{IsNameWord}

-- The words after the options are no more than the words with them.
after_options : (v : Verb) (g h : Given) (ws r : Words) → OptionsThen v g ws h r → length r ≤ length ws
after_options v g h [] r (at_end _) = omega arith
after_options v g h (w ∷ ws) r (at_operand _ _ _ plain) = omega arith
after_options v g h (w ∷ ws) r (switch _ _ o _ _ _ new none rest) = let n = after_options v _ h ws r rest in omega (arith, n)
after_options v g h (w ∷ value ∷ ws) r (valued _ a _ o _ _ _ _ new some with rest) = let n = after_options v a h ws r rest in omega (arith, n)

-- The words of a call are more than its operands.
pub operands_within : (words operands : Words) (verb : Verb) (given : Given) → IsCall words verb given operands → length operands < length words
operands_within words operands verb given call =
    let n = after_options verb _ given call.rest operands call.options in
    let all = ap length call.begins in
    omega (arith, n, all)

-- If a call's operands begin at index i, TYPE is at no other index.
pub one_type : (words operands : Words) (verb : Verb) (given : Given) (i j : ℕ) → IsOnlyCall words verb given operands → i + length operands ≡ length words → IsTypeAt words j → j ≡ i
one_type words operands verb given i j only begin found =
    let same = ap length (only _ _ _ found.call).2 in
    let other = found.begin in
    omega (arith, same, begin, other)

-- A call of a verb that takes no type has no word TYPE.
pub takes_none : (words operands : Words) (verb : Verb) (given : Given) → IsOnlyCall words verb given operands → takes_type verb ≡ false → (i : ℕ) → IsTypeAt words i → ⊥
takes_none words operands verb given only none i found = true≢false (sym found.takes ∙ ap takes_type (sym (only _ _ _ found.call).0) ∙ none)

-- A call without operands has no word TYPE.
pub without_operands : {A : Type 0} (f : A → List ℕ) (xs : List A) (words : Words) (verb : Verb) (given : Given) → IsOnlyCall words verb given (map f xs)
    → (length xs == 0) ≡ true → (i : ℕ) → IsTypeAt words i → ⊥
without_operands f [] words verb given only none i found =
    let same = ap length (only _ _ _ found.call).2 in
    let begin = found.begin in
    let within = found.within in
    omega (arith, same, begin, within)
without_operands f (x ∷ xs) words verb given only none i found = absurd (true≢false (sym none ∙ eqb-suc-zero (length xs)))

-- If the word TYPE names no type in a file, no word of the call does.
pub no_name : (words : Words) (index : ℕ) (w : List ℕ) → ((j : ℕ) → IsTypeAt words j → j ≡ index) → slice_get words index ≡ Some w
    → ((file : List ℕ) (name : Option (List ℕ)) → IsNameWord w file name → ⊥)
    → (i : ℕ) (file : List ℕ) (name : Option (List ℕ)) → NamesType words i file name → ⊥
no_name words index w one is none i file name (type_at, (word, at, named)) =
    let same : word ≡ w = same_Some word w (sym at ∙ ap (slice_get words) (one i type_at) ∙ is) in
    none file name (subst (λ v. IsNameWord v file name) same named)
