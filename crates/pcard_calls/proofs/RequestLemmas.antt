-- Which words are no request. Words are one call at most, so a call whose TYPE is unknown is no other request either.
use Rattle.std.proofs.Common.{◌≡◌, sym, subst, ℕ, List}
use Rattle.pcard_call.proofs.OneReading.{not_misused, same_call}
use Rattle.pcard_call.specs.Calls.{IsCall, IsMisuse}
use Rattle.pcard_call.specs.Options.{Given}
use Rattle.pcard_call.specs.declared.misuse.Misuse.{Misuse}
use Rattle.pcard_call.specs.declared.verb.Verb.{Verb}
use Rattle.pcard_calls.specs.Requests.{IsNoCall, IsTypeWord, first_word}
use Rattle.pcard_calls.specs.declared.names.TypeWord.{TypeWord}

-- Words that are misused are no request.
pub misused : (words : List (List ℕ)) (misuse : Misuse) → IsMisuse words misuse → IsNoCall words
misused words misuse h = λ verb given operands kind r. not_misused words operands verb given misuse r.call h

-- A call whose TYPE stands for nothing is no request.
pub unknown : (words operands : List (List ℕ)) (verb : Verb) (given : Given) → IsCall words verb given operands
    → ((kind : TypeWord) → IsTypeWord verb given (first_word operands) kind → ⊥) → IsNoCall words
unknown words operands verb given call none = λ other more others kind r.
    let same = same_call words operands others verb other given more call r.call in
    none kind
    (subst (λ o. IsTypeWord verb given (first_word o) kind) (sym same.2)
    (subst (λ g. IsTypeWord verb g (first_word others) kind) (sym same.1)
    (subst (λ v. IsTypeWord v more (first_word others) kind) (sym same.0) r.type_word)))
