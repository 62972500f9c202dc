-- Words are one call only, and no call is misused. Two readings of the same words take the same step at each word, since a word names
-- one verb or one option, and an option's word begins with `--`.
use Rattle.std.proofs.Common.{◌≡◌, ℕ, Bool, true, false, Option, Some, List, [], ◌∷◌, refl, sym, ap, subst, ◌∙◌, true≢false, inl, inr}
use Rattle.std.proofs.lemmas.Option.{same_Some}
use Rattle.std.specs.Prelude.{codes, nat_eq, if◌then◌else◌}
use lib.Pointwise.{pointwise}
use Rattle.pcard_call.specs.declared.verb.Verb.{Verb}
use Rattle.pcard_call.specs.declared.verb.Verb.TheVariants as verbs
use Rattle.pcard_call.specs.declared.options.OptionName.{OptionName}
use Rattle.pcard_call.specs.declared.options.OptionName.TheVariants.{Checksum, Longest, Json, Frame, All, Hex, Raw, Names}
use Rattle.pcard_call.specs.declared.misuse.Misuse.{Misuse}
use Rattle.pcard_call.specs.declared.misuse.Misuse.TheVariants.{NoVerb, UnknownVerb, UnknownOption, Untaken, Twice, NoValue, BadValue, Operands}
use Rattle.pcard_call.specs.Words.{verb_name}
use Rattle.pcard_call.specs.Options.{Given, WithValue, option_name, has_value, takes, nothing_given, is_given, with_switch}
use Rattle.pcard_call.specs.Calls.{Words, begins_option, IsNewOption, OptionsThen, at_end, at_operand, switch, valued, fits, IsCall}
use Rattle.pcard_call.specs.Calls.{IsBadOption, IsBadValue, IsMisused, bad_option, no_value, bad_value, after_switch, after_value, IsMisuse}

-- Whether two words are equal.
abbrev is : List ℕ → List ℕ → Bool
is = pointwise nat_eq

-- The verb that a word names, if there is one.
abbrev verb_of : List ℕ → Option Verb
verb_of word =
    if is word (codes "enc") then Some verbs.Encode else if is word (codes "dec") then Some verbs.Decode else
    if is word (codes "decs") then Some verbs.DecodeAll else if is word (codes "frames") then Some verbs.Frames else
    if is word (codes "explain") then Some verbs.Explain else if is word (codes "size") then Some verbs.Size else
    if is word (codes "key") then Some verbs.Key else if is word (codes "crc") then Some verbs.Checksum else Some verbs.Types

-- The verb that the name of v names is v.
verb_is : (v : Verb) → verb_of (verb_name v) ≡ Some v
verb_is verbs.Encode = refl
verb_is verbs.Decode = refl
verb_is verbs.DecodeAll = refl
verb_is verbs.Frames = refl
verb_is verbs.Explain = refl
verb_is verbs.Size = refl
verb_is verbs.Key = refl
verb_is verbs.Checksum = refl
verb_is verbs.Types = refl

-- Different verbs have different names.
pub same_verb : (v u : Verb) → verb_name v ≡ verb_name u → v ≡ u
same_verb v u e = same_Some v u (sym (verb_is v) ∙ ap verb_of e ∙ verb_is u)

-- The option that a word names, if there is one.
abbrev option_from : List ℕ → Option OptionName
option_from word =
    if is word (codes "--crc") then Some Checksum else if is word (codes "--longest") then Some Longest else
    if is word (codes "--json") then Some Json else if is word (codes "--frame") then Some Frame else
    if is word (codes "--all") then Some All else if is word (codes "--hex") then Some Hex else if is word (codes "--raw") then Some Raw else Some Names

-- The option that the name of o names is o.
option_is : (o : OptionName) → option_from (option_name o) ≡ Some o
option_is Checksum = refl
option_is Longest = refl
option_is Json = refl
option_is Frame = refl
option_is All = refl
option_is Hex = refl
option_is Raw = refl
option_is Names = refl

-- Different options have different names.
pub same_option : (o p : OptionName) → option_name o ≡ option_name p → o ≡ p
same_option o p e = same_Some o p (sym (option_is o) ∙ ap option_from e ∙ option_is p)

-- The name of an option begins with `--`.
pub begins : (o : OptionName) → begins_option (option_name o) ≡ true
begins Checksum = refl
begins Longest = refl
begins Json = refl
begins Frame = refl
begins All = refl
begins Hex = refl
begins Raw = refl
begins Names = refl

-- Adding an option with one value to the same options gives the same options.
pub same_value : (o : OptionName) (value : List ℕ) (g h k : Given) → WithValue o value g h → WithValue o value g k → h ≡ k
same_value Checksum value g h k a b = a ∙ sym b
same_value Longest value g h k (n, says, a) (m, other, b) = a ∙ ap (λ z. record g { longest = Some z }) (says.1 ∙ sym other.1) ∙ sym b
same_value Json value g h k a b = absurd a
same_value Frame value g h k a b = absurd a
same_value All value g h k a b = absurd a
same_value Hex value g h k a b = absurd a
same_value Raw value g h k a b = absurd a
same_value Names value g h k a b = absurd a

-- Equal lists of words have equal first words,
same_first : {x y : List ℕ} {xs ys : Words} → x ∷ xs ≡ y ∷ ys → x ≡ y
same_first e = cc

-- and equal remaining words.
same_rest : {x y : List ℕ} {xs ys : Words} → x ∷ xs ≡ y ∷ ys → xs ≡ ys
same_rest e = cc

-- The word of a new option begins with `--`, so it is no operand.
not_operand : (v : Verb) (g : Given) (w : List ℕ) (o : OptionName) → IsNewOption v g w o → begins_option w ≡ false → ⊥
not_operand v g w o new plain = true≢false (sym (begins o) ∙ ap begins_option (sym new.0) ∙ plain)

-- One word isn't both a new option that has a value and a new option that has none.
not_both : (v : Verb) (g : Given) (w : List ℕ) (o p : OptionName) → IsNewOption v g w o → IsNewOption v g w p → has_value o ≡ false → has_value p ≡ true → ⊥
not_both v g w o p new other plain dashed =
    let same = same_option o p (sym new.0 ∙ other.0) in
    true≢false (sym dashed ∙ ap has_value (sym same) ∙ plain)

-- Two readings of the same words give the same options and the same words after them.
pub one_reading : (v : Verb) (g h k : Given) (ws r s : Words) → OptionsThen v g ws h r → OptionsThen v g ws k s → (h ≡ k) × (r ≡ s)
one_reading v g h k [] r s (at_end _) (at_end _) = (refl, refl)
one_reading v g h k (w ∷ ws) r s (at_operand _ _ _ plain) (at_operand _ _ _ also) = (refl, refl)
one_reading v g h k (w ∷ ws) r s (at_operand _ _ _ plain) (switch _ _ o _ _ _ new none rest) = absurd (not_operand v g w o new plain)
one_reading v g h k (w ∷ ws) r s (at_operand _ _ _ plain) (valued _ _ _ o _ _ _ _ new some with rest) = absurd (not_operand v g w o new plain)
one_reading v g h k (w ∷ ws) r s (switch _ _ o _ _ _ new none rest) (at_operand _ _ _ plain) = absurd (not_operand v g w o new plain)
one_reading v g h k (w ∷ ws) r s (switch _ _ o _ _ _ new none rest) (switch _ _ p _ _ _ other also more) =
    let same = same_option p o (sym other.0 ∙ new.0) in
    one_reading v (with_switch o g) h k ws r s rest (subst (λ x. OptionsThen v (with_switch x g) ws k s) same more)
one_reading v g h k (w ∷ ws) r s (switch _ _ o _ _ _ new none rest) (valued _ _ _ p _ _ _ _ other some with more) = absurd (not_both v g w o p new other none some)
one_reading v g h k (w ∷ ws) r s (valued _ _ _ o _ _ _ _ new some with rest) (at_operand _ _ _ plain) = absurd (not_operand v g w o new plain)
one_reading v g h k (w ∷ ws) r s (valued _ _ _ o _ _ _ _ new some with rest) (switch _ _ p _ _ _ other none more) = absurd (not_both v g w p o other new none some)
one_reading v g h k (w ∷ value ∷ ws) r s (valued _ a _ o _ _ _ _ new some with rest) (valued _ b _ p _ _ _ _ other also more_with more) =
    let same = same_option p o (sym other.0 ∙ new.0) in
    let one = same_value o value g b a (subst (λ x. WithValue x value g b) same more_with) with in
    one_reading v a h k ws r s rest (subst (λ x. OptionsThen v x ws k s) one more)

-- The word of a new option is no bad option.
not_bad : (v : Verb) (g : Given) (w : List ℕ) (o : OptionName) (m : Misuse) → IsNewOption v g w o → IsBadOption v g w m → ⊥
not_bad v g w o NoVerb new bad = bad
not_bad v g w o (UnknownVerb x) new bad = bad
not_bad v g w o (UnknownOption u x) new bad = bad.2 o new.0
not_bad v g w o (Untaken u p) new bad =
    let same = same_option o p (sym new.0 ∙ bad.1) in
    true≢false (sym new.1 ∙ ap (takes v) same ∙ bad.2)
not_bad v g w o (Twice p) new bad =
    let same = same_option o p (sym new.0 ∙ bad.0) in
    true≢false (sym bad.2 ∙ ap (λ x. is_given x g) (sym same) ∙ new.2)
not_bad v g w o (NoValue p) new bad = bad
not_bad v g w o (BadValue p x) new bad = bad
not_bad v g w o (Operands u) new bad = bad

-- A value with which an option was added is no bad value of the option.
added_bad : (o : OptionName) (value : List ℕ) (g h : Given) (m : Misuse) → WithValue o value g h → IsBadValue o value m → ⊥
added_bad o value g h NoVerb added bad = bad
added_bad o value g h (UnknownVerb x) added bad = bad
added_bad o value g h (UnknownOption u x) added bad = bad
added_bad o value g h (Untaken u p) added bad = bad
added_bad o value g h (Twice p) added bad = bad
added_bad o value g h (NoValue p) added bad = bad
added_bad o value g h (BadValue p x) added (is, same, none) = none g h added
added_bad o value g h (Operands u) added bad = bad

-- Words that can be read as options and the words after them are not misused.
pub reading_or_misuse : (v : Verb) (g h : Given) (ws r : Words) (m : Misuse) → OptionsThen v g ws h r → IsMisused v g ws m → ⊥
reading_or_misuse v g h [] r m _ misused = elim misused [ ]
reading_or_misuse v g h (w ∷ ws) r m (at_operand _ _ _ plain) (bad_option _ _ _ _ dashed bad) = true≢false (sym dashed ∙ plain)
reading_or_misuse v g h (w ∷ ws) r m (at_operand _ _ _ plain) (no_value _ o _ new some) = not_operand v g w o new plain
reading_or_misuse v g h (w ∷ ws) r m (at_operand _ _ _ plain) (bad_value _ o _ _ _ _ new some bad) = not_operand v g w o new plain
reading_or_misuse v g h (w ∷ ws) r m (at_operand _ _ _ plain) (after_switch _ o _ _ _ new none rest) = not_operand v g w o new plain
reading_or_misuse v g h (w ∷ ws) r m (at_operand _ _ _ plain) (after_value _ _ o _ _ _ _ new some with rest) = not_operand v g w o new plain
reading_or_misuse v g h (w ∷ ws) r m (switch _ _ o _ _ _ new none rest) (bad_option _ _ _ _ dashed bad) = not_bad v g w o m new bad
reading_or_misuse v g h (w ∷ ws) r m (switch _ _ o _ _ _ new none rest) (no_value _ p _ other some) = not_both v g w o p new other none some
reading_or_misuse v g h (w ∷ ws) r m (switch _ _ o _ _ _ new none rest) (bad_value _ p _ _ _ _ other some bad) = not_both v g w o p new other none some
reading_or_misuse v g h (w ∷ ws) r m (switch _ _ o _ _ _ new none rest) (after_switch _ p _ _ _ other also more) =
    let same = same_option p o (sym other.0 ∙ new.0) in
    reading_or_misuse v (with_switch o g) h ws r m rest (subst (λ x. IsMisused v (with_switch x g) ws m) same more)
reading_or_misuse v g h (w ∷ ws) r m (switch _ _ o _ _ _ new none rest) (after_value _ _ p _ _ _ _ other some with more) = not_both v g w o p new other none some
reading_or_misuse v g h (w ∷ ws) r m (valued _ _ _ o _ _ _ _ new some with rest) (bad_option _ _ _ _ dashed bad) = not_bad v g w o m new bad
reading_or_misuse v g h (w ∷ ws) r m (valued _ _ _ o _ _ _ _ new some with rest) (after_switch _ p _ _ _ other none more) = not_both v g w p o other new none some
reading_or_misuse v g h (w ∷ value ∷ ws) r m (valued _ _ _ o _ _ _ _ new some with rest) (bad_value _ p _ _ _ _ other also bad) =
    let same = same_option p o (sym other.0 ∙ new.0) in
    added_bad o value g _ m with (subst (λ x. IsBadValue x value m) same bad)
reading_or_misuse v g h (w ∷ value ∷ ws) r m (valued _ a _ o _ _ _ _ new some with rest) (after_value _ b p _ _ _ _ other also more_with more) =
    let same = same_option p o (sym other.0 ∙ new.0) in
    let one = same_value o value g b a (subst (λ x. WithValue x value g b) same more_with) with in
    reading_or_misuse v a h ws r m rest (subst (λ x. IsMisused v x ws m) one more)

-- If words are two calls, these have the same verb, the same options and the same operands.
pub same_call : (words operands others : Words) (verb other : Verb) (given more : Given) → IsCall words verb given operands → IsCall words other more others
    → (verb ≡ other) × (given ≡ more) × (operands ≡ others)
same_call words operands others verb other given more a b =
    let both = sym a.begins ∙ b.begins in
    let verbs = same_verb verb other (same_first both) in
    let moved = subst (λ x. OptionsThen x nothing_given b.rest more others) (sym verbs) (subst (λ z. OptionsThen other nothing_given z more others) refl b.options) in
    let here = subst (λ z. OptionsThen verb nothing_given z more others) (sym (same_rest both)) moved in
    let one = one_reading verb nothing_given given more a.rest operands others a.options here in
    (verbs, one.0, one.1)

-- Words that are a call are no misuse.
pub not_misused : (words operands : Words) (verb : Verb) (given : Given) (misuse : Misuse) → IsCall words verb given operands → IsMisuse words misuse → ⊥
not_misused words operands verb given NoVerb a (inl none) = let e = sym none ∙ a.begins in cc
not_misused words operands verb given (UnknownVerb w) a (inl (rest, is, none)) = none verb (same_first (sym is ∙ a.begins))
not_misused words operands verb given (UnknownOption v w) a (inl never) = never
not_misused words operands verb given (Untaken v o) a (inl never) = never
not_misused words operands verb given (Twice o) a (inl never) = never
not_misused words operands verb given (NoValue o) a (inl never) = never
not_misused words operands verb given (BadValue o w) a (inl never) = never
not_misused words operands verb given (Operands v) a (inl b) =
    let both = sym a.begins ∙ b.begins in
    let verbs = same_verb verb v (same_first both) in
    let moved = subst (λ x. OptionsThen x nothing_given b.rest b.given b.operands) (sym verbs) b.options in
    let here = subst (λ z. OptionsThen verb nothing_given z b.given b.operands) (sym (same_rest both)) moved in
    let one = one_reading verb nothing_given given b.given a.rest operands b.operands a.options here in
    let unfit : fits verb given operands ≡ false =
    ap (λ x. fits x given operands) verbs ∙ ap (λ x. fits v x operands) one.0 ∙ ap (λ x. fits v b.given x) one.1 ∙ b.unfit in
    true≢false (sym a.fit ∙ unfit)
not_misused words operands verb given misuse a (inr (v, rest, is, misused)) =
    let both = sym a.begins ∙ is in
    let verbs = same_verb verb v (same_first both) in
    let moved = subst (λ x. IsMisused x nothing_given rest misuse) (sym verbs) misused in
    let here = subst (λ z. IsMisused verb nothing_given z misuse) (sym (same_rest both)) moved in
    reading_or_misuse verb nothing_given given a.rest operands misuse a.options here
