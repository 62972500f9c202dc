-- The mutually recursive readers of types, each by the grammar. A part that is read is the only one there, and what is left of the text
-- denotes what is left of the whole. If a part can't be read, no text of the whole begins here. The lemmas `LeftOf..` say what is left
-- after each part.
-- Signs are bytes: 38 is `&`, 40 `(`, 41 `)`, 44 `,`, 60 `<`, 91 `[`, 93 `]`, 123 `{`, 124 `|`.
use Rattle.std.proofs.Common.{◌≡◌, ℕ, ◌+◌, ◌-◌, ◌<◌, ◌⊎◌, suc, true, false, List, [], ◌∷◌, ◌++◌, length, refl, sym, ap, subst, ◌∙◌, true≢false, arith, inl, inr}
use Rattle.std.proofs.lemmas.Grind.{common_steps}
use Rattle.std.proofs.lemmas.List.{length_push}
use Rattle.postcard_schema.specs.declared.schema.Named.{Named}
use Rattle.postcard_schema.specs.declared.schema.Schema.{Schema}
use Rattle.postcard_schema.specs.declared.schema.Schema.TheVariants.{Option}
use Rattle.postcard_schema.specs.Lemmas.{type_of_option, type_of_seq, type_of_array, type_of_tuple, type_of_struct, type_of_enum}
use Rattle.postcard_schema.specs.Meaning.{option, seq, array, group, choice, contents, has_bytes, type_of, types_of}
use Rattle.postcard_schema_text.specs.declared.angled.Pair.TheVariants as pairs
use Rattle.postcard_schema_text.specs.declared.names.TypeName.TheVariants as names
use Rattle.postcard_schema_text.specs.Angled.{IsTypeName}
use Rattle.postcard_schema_text.specs.Names.{IsNewTo}
use Rattle.postcard_schema_text.specs.Text.{TakesPhrase, IsSign, GoesOnBy}
use Rattle.postcard_schema_text.specs.Grammar.{Separated, IsField, IsVariantText, IsNew, IsType}
use Rattle.postcard_schema_text.specs.Fronts.{follows_variant, IsNamed, StartsEnum}
use Rattle.postcard_schema_text.specs.Phrases.{takes_two, takes_as}
use Rattle.postcard_schema_text.specs.FrontLemmas.{takes_split, word_taken}
use Rattle.postcard_schema_text.proofs.Rows.{row_more, row_filled, begun_more}
use Rattle.postcard_schema_text.proofs.Takes.{type_enum, type_options, options_more, enum_takes, maybe_takes, fields_take, field_takes, variant_takes, seq_takes, array_takes, tuple_takes}
use Rattle.postcard_schema_text.proofs.Left.{after_sign, behind_sign, follows_black, named_alike}
use Rattle.postcard_schema_text.proofs.LeftOfList.{ended_begins, ended_left, list_begins, list_left, array_left, seq_left}
use Rattle.postcard_schema_text.proofs.LeftOfFields.{FieldFront, fields_begin, field_front, field_content, fields_field, fields_after, fields_close, fields_next, fields_go_on, fields_not_ended, names_more}
use Rattle.postcard_schema_text.proofs.LeftOfTuple.{tuple_empty, tuple_first, tuple_begins, tuple_single, tuple_after_first, tuple_go_on, tuple_close, tuple_comma_close, tuple_next, tuple_next_begins, tuple_after, tuple_not_ended}
use Rattle.postcard_schema_text.proofs.LeftOfEnum.{VariantFront, taken_not_new, content_in_tuple, content_in_fields, content_of_none, variant_front, enum_begins, variant_begins, enum_after, enum_bar, enum_end, enum_not_ended}
use Rattle.postcard_schema_text.proofs.LeftOfAngled.{type_of_holder, type_of_pair, one_front, one_read, one_takes, two_begin, second_left, two_read, two_take, map_arrow, map_value, value_takes}
use Rattle.postcard_schema_text.proofs.LeftOfType.{word_front, word_rest, word_takes, leaf_left, type_as_enum, type_as_plain, options_step, options_end, options_full, options_of, plain_list_left, plain_tuple_left, plain_braces_left, plain_word_left, braces_as_fields, braces_as_map, no_type}
use Rattle.postcard_schema_text.proofs.LeftOfReference.{plain_is_referred, referred_is_plain, reference_left, reference_takes, lifetime_next, lifetime_left, lifetime_takes, lifetime_le}
use Rattle.postcard_schema_text.proofs.Refusals.{refusal, refusal_as, refuses, reads_err, reads_as, reads_made, takes_le, takes_less, is_empty, forget_new, is_new}
use Rattle.postcard_schema_text.proofs.types.+types.Goals.{read_enum-else-len-eq1-via-then-len-eq1+else-not-leads, read_enum-else-len-eq1-via-else-len-eq1}
use Rattle.postcard_schema_text.proofs.types.+types.Goals as goal

-- ---- structs and maps
pub read_braces-returns-then-begins_field : goal.read_braces-returns-then-begins_field
read_braces-returns-then-begins_field t c =
    let named = c.begins_field.ensures.0 c.if-begins_field.true in
    reads_as c.read_fields.ensures (λ s h. takes_as _ _ _ _ (λ t k. inl k) h) (λ s r h free. (braces_as_fields _ s _ r named h, tt))

pub read_braces-returns-in-Ok : goal.read_braces-returns-in-Ok
read_braces-returns-in-Ok t c =
    let no_field : IsNamed c.args.rest.now.now → ⊥ = λ named. true≢false (sym (c.begins_field.ensures.1 named) ∙ c.if-begins_field.false) in
    record {
      spelled = takes_as _ _ _ _ (λ t k. inr k) c.in-Ok.ensures.spelled;
      one = λ s r h free. c.in-Ok.ensures.one s r (braces_as_map _ s _ r no_field h) free;
      refused = tt;
    }

pub read_braces-returns-in-Err : goal.read_braces-returns-in-Err
read_braces-returns-in-Err t c =
    let no_field : IsNamed c.args.rest.now.now → ⊥ = λ named. true≢false (sym (c.begins_field.ensures.1 named) ∙ c.if-begins_field.false) in
    refuses (refusal_as c.or_colon.ensures.memory (refusal (λ (s, r, h, free). (s, r, braces_as_map _ s _ r no_field h, free)) c.in-Err.ensures.refused))

-- ---- the content of a variant
pub read_content-returns-then-take : goal.read_content-returns-then-take
read_content-returns-then-take t c =
    let sign = c.take.ensures.taken c.if-take.true in
    reads_as c.read_tuple.ensures (λ s h. takes_as _ _ _ _ (λ z k. inl k) (takes_two (IsSign 40) _ _ _ _ sign h)) (λ s r h goes. (content_in_tuple _ s _ _ r h goes sign, tt))

pub read_content-returns-then-take-2 : goal.read_content-returns-then-take-2
read_content-returns-then-take-2 t c =
    let sign = rw (c.take.ensures.left c.if-take.false) at (c.take-2.ensures.taken c.if-take-2.true) in
    reads_as c.read_fields.ensures (λ s h. takes_as _ _ _ _ (λ z k. inr (inl k)) (takes_two (IsSign 123) _ _ _ _ sign h)) (λ s r h goes. (content_in_fields _ s _ _ r h goes sign, tt))

pub read_content-returns : goal.read_content-returns
read_content-returns t c =
    let same = c.take.ensures.left c.if-take.false in
    let all = c.take-2.ensures.left c.if-take-2.false ∙ same in
    let no_fields = rw same at (c.take-2.ensures.none c.if-take-2.false refl) in
    record {
      spelled = ([], inr (inr (c.new.result, refl, c.new.ensures.items, refl)), sym all);
      one = λ s r h goes.
          let left = content_of_none _ s _ r h (c.take.ensures.none c.if-take.false refl) no_fields in
          (left.0 ∙ sym (type_of_tuple c.new.result ∙ ap (λ ss. group (types_of ss)) c.new.ensures.items), left.1 ∙ sym all);
      refused = tt;
    }

-- ---- types without `&` and `?`
pub read_plain-returns-then-take : goal.read_plain-returns-then-take
read_plain-returns-then-take t c =
    let sign = c.take.ensures.taken c.if-take.true in
    reads_as c.read_list.ensures (λ s h. takes_as _ _ _ _ (λ z k. inr (inl k)) (takes_two (IsSign 91) _ _ _ _ sign h)) (λ s r h ends. (plain_list_left _ s _ _ r h sign, tt))

pub read_plain-returns-then-take-2 : goal.read_plain-returns-then-take-2
read_plain-returns-then-take-2 t c =
    let sign = rw (c.take.ensures.left c.if-take.false) at (c.take-2.ensures.taken c.if-take-2.true) in
    reads_as c.read_tuple.ensures (λ s h. takes_as _ _ _ _ (λ z k. inr (inr (inl k))) (takes_two (IsSign 40) _ _ _ _ sign h)) (λ s r h ends. (plain_tuple_left _ s _ _ r h sign, tt))

pub read_plain-returns-then-take-3 : goal.read_plain-returns-then-take-3
read_plain-returns-then-take-3 t c =
    let sign = rw (c.take-2.ensures.left c.if-take-2.false ∙ c.take.ensures.left c.if-take.false) at (c.take-3.ensures.taken c.if-take-3.true) in
    reads_as c.read_braces.ensures (λ s h. takes_as _ _ _ _ (λ z k. inr (inr (inr k))) (takes_two (IsSign 123) _ _ _ _ sign h)) (λ s r h ends. (plain_braces_left _ s _ _ r h sign, tt))

pub read_plain-returns : goal.read_plain-returns
read_plain-returns t c =
    let one = c.take.ensures.left c.if-take.false in
    let two = c.take-2.ensures.left c.if-take-2.false ∙ one in
    let three = c.take-3.ensures.left c.if-take-3.false ∙ two in
    let no_tuple = rw one at (c.take-2.ensures.none c.if-take-2.false refl) in
    let no_braces = rw two at (c.take-3.ensures.none c.if-take-3.false refl) in
    reads_as (rw three at c.read_worded.ensures) (λ s h. takes_as _ _ _ _ (λ z k. inl k) h)
    (λ s r h ends. (plain_word_left _ s _ r (c.take.ensures.none c.if-take.false refl) no_tuple no_braces h, ends))

-- ---- types that begin with their name
pub read_worded-returns-then-is_empty : goal.read_worded-returns-then-is_empty
read_worded-returns-then-is_empty t c =
    let word = c.take_word-word in
    let taken = word_taken word.ensures.taken word.ensures.first word.ensures.whole in
    refuses (inr (λ (s, r, h, ends). let filled = (word_front _ s _ _ _ r taken ends h).filled in grind (arith, common_steps, filled)))

pub read_worded-returns-in_default : goal.read_worded-returns-in_default
read_worded-returns-in_default t c =
    let word = c.take_word-word in
    let taken = word_taken word.ensures.taken word.ensures.first word.ensures.whole in
    refuses (inr (λ (s, r, h, ends). let f = word_front _ s _ _ _ r taken ends h in c.in_default.ensures.none f.kind f.named))

pub read_worded-returns-in-Leaf : goal.read_worded-returns-in-Leaf
read_worded-returns-in-Leaf t c =
    let word = c.take_word-word in
    let taken = word_taken word.ensures.taken word.ensures.first word.ensures.whole in
    let named = subst (IsTypeName word.result.now) c.in-Leaf.is c.in-Some.ensures.found in
    record {
      spelled = word_takes _ (names.Leaf c.in-Leaf.leaf) _ _ _ _ _ named word.ensures.taken ([], (refl, refl), refl);
      one = λ s r h ends. leaf_left (IsType c.args.depth) c.in-Leaf.leaf s _ r (word_rest _ (names.Leaf c.in-Leaf.leaf) s _ _ _ r taken named ends h);
      refused = tt;
    }

pub read_worded-returns-in_err-open_angle-in-Angled : goal.read_worded-returns-in_err-open_angle-in-Angled
read_worded-returns-in_err-open_angle-in-Angled t c =
    let word = c.take_word-word in
    let taken = word_taken word.ensures.taken word.ensures.first word.ensures.whole in
    let named = subst (IsTypeName word.result.now) c.in-Angled.is c.in-Some.ensures.found in
    let kind = names.Angled c.in-Angled.kind in
    reads_err _ c.from_residual.ensures.1 (inr (λ (s, r, h, ends).
    let m = takes_split (IsSign 60) _ _ r (word_rest _ kind s _ _ _ r taken named ends h) in
    c.in_err-open_angle-in-Angled.ensures.none m.0 m.1))

pub read_worded-returns-in_ok-open_angle-in-Angled : goal.read_worded-returns-in_ok-open_angle-in-Angled
read_worded-returns-in_ok-open_angle-in-Angled t c =
    let word = c.take_word-word in
    let taken = word_taken word.ensures.taken word.ensures.first word.ensures.whole in
    let named = subst (IsTypeName word.result.now) c.in-Angled.is c.in-Some.ensures.found in
    let kind = names.Angled c.in-Angled.kind in
    let sign = c.in_ok-open_angle-in-Angled.ensures.taken in
    reads_as c.read_angled.ensures (λ s h. word_takes _ kind s _ _ _ _ named word.ensures.taken (takes_two (IsSign 60) _ _ _ _ sign h))
    (λ s r h ends. (behind_sign 60 _ _ _ r refl sign (word_rest _ kind s _ _ _ r taken named ends h), tt))

pub read_angled-returns-in-Holder : goal.read_angled-returns-in-Holder
read_angled-returns-in-Holder t c = rw c.in-Holder.is c.read_holder.ensures

pub read_angled-returns-in-Pair : goal.read_angled-returns-in-Pair
read_angled-returns-in-Pair t c = rw c.in-Pair.is c.read_pair.ensures

-- ---- types in `<` and `>`
pub read_ended-returns-in_err-schema : goal.read_ended-returns-in_err-schema
read_ended-returns-in_err-schema t c =
    reads_err _ c.from_residual.ensures.1 (refusal (λ (s, r, h, free). ended_begins _ _ s _ r c.requires h) c.in_err-schema.ensures.refused)

pub read_ended-returns-in_err-expect : goal.read_ended-returns-in_err-expect
read_ended-returns-in_err-expect t c =
    reads_err _ c.from_residual-in_err-expect.ensures.1 (inr (λ (s, r, h, free).
    c.in_err-expect.ensures.none (follows_black c.args.sign c.requires) r (ended_left _ _ s _ _ _ r c.requires c.in_ok-schema.ensures.one h).1))

pub read_ended-returns : goal.read_ended-returns
read_ended-returns t c =
    let sign = c.in_ok-expect.ensures.taken in
    record {
      spelled = takes_two _ (IsSign c.args.sign) _ _ _ c.in_ok-schema.ensures.spelled sign;
      one = λ s r h free.
          let left = ended_left _ _ s _ _ _ r c.requires c.in_ok-schema.ensures.one h in
          (left.0, after_sign c.args.sign _ r _ (follows_black c.args.sign c.requires) left.1 sign);
      refused = tt;
    }

pub read_holder-returns-in_err-inner : goal.read_holder-returns-in_err-inner
read_holder-returns-in_err-inner t c =
    reads_err _ c.from_residual.ensures.1 (refusal (λ (s, r, h, free). let f = one_front _ _ s _ r h in (f.inner, r, f.taken, tt)) c.in_err-inner.ensures.refused)

pub read_holder-returns : goal.read_holder-returns
read_holder-returns t c =
    let holder = c.args.holder in
    let x = c.in_ok-inner.inner in
    let one = c.in_ok-inner.ensures.one in
    reads_made c.of_type.result c.of_type.ensures.made c.of_type.ensures.refused
    (λ y made. record {
      spelled = one_takes _ holder x y _ _ c.in_ok-inner.ensures.spelled made;
      one = λ s r h free. let k = one_read _ holder s x _ _ r one h in (k.is ∙ sym (type_of_holder holder x y made.1), k.same);
      refused = tt;
    }) (λ (s, r, h, free). (one_read _ holder s x _ _ r one h).may)

pub read_pair-returns-in_err-first : goal.read_pair-returns-in_err-first
read_pair-returns-in_err-first t c =
    reads_err _ c.from_residual.ensures.1 (refusal (λ (s, r, h, free). two_begin _ _ _ s _ r h) c.in_err-first.ensures.refused)

pub read_pair-returns-in_err-second : goal.read_pair-returns-in_err-second
read_pair-returns-in_err-second t c =
    reads_err _ c.from_residual-in_err-second.ensures.1 (refusal (λ (s, r, h, free).
    let k = second_left _ _ _ s _ _ _ r c.in_ok-first.ensures.one h in (k.second, r, k.taken, tt)) c.in_err-second.ensures.refused)

pub read_pair-returns : goal.read_pair-returns
read_pair-returns t c =
    let x = c.in_ok-first.first in
    let y = c.in_ok-second.second in
    let first = c.in_ok-first.ensures in
    let second = c.in_ok-second.ensures in
    reads_made c.of_types.result c.of_types.ensures.made c.of_types.ensures.refused
    (λ z made. record {
      spelled = two_take _ _ c.args.pair x y z _ _ _ first.spelled second.spelled made;
      one = λ s r h free.
          let k = two_read _ _ s y _ _ _ r second.one (second_left _ _ _ s x _ _ r first.one h) in
          (k.is ∙ sym (type_of_pair c.args.pair x y z made.1), k.same);
      refused = tt;
    }) (λ (s, r, h, free). (two_read _ _ s y _ _ _ r second.one (second_left _ _ _ s x _ _ r first.one h)).may)

-- ---- lists and arrays
pub read_list-returns-in_err-element : goal.read_list-returns-in_err-element
read_list-returns-in_err-element t c =
    reads_err _ c.from_residual.ensures.1 (refusal (λ (s, r, h, free). list_begins _ s _ r h) c.in_err-element.ensures.refused)

pub read_list-returns-then-not-has_bytes : goal.read_list-returns-then-not-has_bytes
read_list-returns-then-not-has_bytes t c =
    let lacks : has_bytes (type_of c.in_ok-element.element) ≡ false = grind (arith, common_steps) in
    refuses (inr (λ (s, r, h, free). true≢false (sym (list_left _ s _ _ _ r c.in_ok-element.ensures.one h).full ∙ lacks)))

pub read_list-returns-in_err-count : goal.read_list-returns-in_err-count
read_list-returns-in_err-count t c =
    let semicolon = c.take.ensures.taken c.if-take.true in
    reads_err _ c.from_residual-in_err-count.ensures.1 (inr (λ (s, r, h, free).
    let k = array_left s _ _ _ r (list_left _ s _ _ _ r c.in_ok-element.ensures.one h) semicolon in
    c.in_err-count.ensures.none k.0 k.1 k.3 k.5))

pub read_list-returns-in_err-expect : goal.read_list-returns-in_err-expect
read_list-returns-in_err-expect t c =
    let semicolon = c.take.ensures.taken c.if-take.true in
    reads_err _ c.from_residual-in_err-expect.ensures.1 (inr (λ (s, r, h, free).
    let k = array_left s _ _ _ r (list_left _ s _ _ _ r c.in_ok-element.ensures.one h) semicolon in
    let same = (c.in_ok-count.ensures.one k.0 k.1 k.3 k.5).1 in
    c.in_err-expect.ensures.none refl r (subst (λ z. TakesPhrase (IsSign 93) z r) same k.4)))

pub read_list-returns-then-take : goal.read_list-returns-then-take
read_list-returns-then-take t c =
    let semicolon = c.take.ensures.taken c.if-take.true in
    let e = type_of c.in_ok-element.element in
    let full : has_bytes e ≡ true = grind (arith, common_steps) in
    let n = c.in_ok-count.count in
    let held = c.in_ok-element-2.element in
    let close = c.in_ok-expect.ensures.taken in
    record {
      spelled = array_takes _ n _ held _ _ _ _ _ c.in_ok-element.ensures.spelled c.in_ok-element-2.ensures.held full semicolon c.in_ok-count.ensures.taken close;
      one = λ s r h free.
          let k = array_left s _ _ _ r (list_left _ s _ _ _ r c.in_ok-element.ensures.one h) semicolon in
          let count = c.in_ok-count.ensures.one k.0 k.1 k.3 k.5 in
          let typed = type_of_array held n ∙ ap (λ x. array n (type_of x)) c.in_ok-element-2.ensures.held in
          (k.2 ∙ ap (λ n. array n e) count.0 ∙ sym typed, after_sign 93 _ r _ refl (subst (λ z. TakesPhrase (IsSign 93) z r) count.1 k.4) close);
      refused = tt;
    }

pub read_list-returns-in_err-expect-2 : goal.read_list-returns-in_err-expect-2
read_list-returns-in_err-expect-2 t c =
    let same = c.take.ensures.left c.if-take.false in
    reads_err _ c.from_residual-in_err-expect-2.ensures.1 (inr (λ (s, r, h, free).
    let k = seq_left s _ _ r (list_left _ s _ _ _ r c.in_ok-element.ensures.one h) (c.take.ensures.none c.if-take.false refl) in
    c.in_err-expect-2.ensures.none refl r (subst (λ z. TakesPhrase (IsSign 93) z r) (sym same) k.1)))

pub read_list-returns : goal.read_list-returns
read_list-returns t c =
    let full : has_bytes (type_of c.in_ok-element.element) ≡ true = grind (arith, common_steps) in
    let held = c.in_ok-element-2.element in
    let close = rw (c.take.ensures.left c.if-take.false) at c.in_ok-expect-2.ensures.taken in
    record {
      spelled = seq_takes _ _ held _ _ _ c.in_ok-element.ensures.spelled c.in_ok-element-2.ensures.held full close;
      one = λ s r h free.
          let k = seq_left s _ _ r (list_left _ s _ _ _ r c.in_ok-element.ensures.one h) (c.take.ensures.none c.if-take.false refl) in
          (k.0 ∙ sym (type_of_seq held ∙ ap (λ x. seq (type_of x)) c.in_ok-element-2.ensures.held), after_sign 93 _ r _ refl k.1 close);
      refused = tt;
    }

-- ---- maps
pub read_map-returns-in_err-key : goal.read_map-returns-in_err-key
read_map-returns-in_err-key t c =
    reads_err _ c.from_residual.ensures.1 (refusal (λ (s, r, h, free). two_begin _ _ pairs.Map s _ r h) c.in_err-key.ensures.refused)

pub read_map-returns-in_err-expect : goal.read_map-returns-in_err-expect
read_map-returns-in_err-expect t c =
    reads_err _ c.from_residual-in_err-expect.ensures.1 (inr (λ (s, r, h, free).
    let k = map_arrow _ s _ _ r (second_left _ _ pairs.Map s _ _ _ r c.in_ok-key.ensures.one h) in
    c.in_err-expect.ensures.none refl k.0 k.1))

pub read_map-returns-in_err-value : goal.read_map-returns-in_err-value
read_map-returns-in_err-value t c =
    reads_err _ c.from_residual-in_err-value.ensures.1 (refusal (λ (s, r, h, free).
    let k = map_value _ s _ _ _ r c.in_ok-expect.ensures.taken (second_left _ _ pairs.Map s _ _ _ r c.in_ok-key.ensures.one h) in
    (k.second, r, k.taken, tt)) c.in_err-value.ensures.refused)

pub read_map-returns : goal.read_map-returns
read_map-returns t c =
    let x = c.in_ok-key.key in
    let y = c.in_ok-value.value in
    let value = c.in_ok-value.ensures in
    reads_made c.map_of.result c.map_of.ensures.made c.map_of.ensures.refused
    (λ z made. record {
      spelled = two_take _ _ pairs.Map x y z _ _ _ c.in_ok-key.ensures.spelled (value_takes (IsType c.args.depth) y _ _ _ c.in_ok-expect.ensures.taken value.spelled) made;
      one = λ s r h free.
          let k = two_read _ _ s y _ _ _ r value.one (map_value _ s _ _ _ r c.in_ok-expect.ensures.taken (second_left _ _ pairs.Map s _ _ _ r c.in_ok-key.ensures.one h)) in
          (k.is ∙ sym (type_of_pair pairs.Map x y z made.1), k.same);
      refused = tt;
    }) (λ (s, r, h, free). (two_read _ _ s y _ _ _ r value.one (map_value _ s _ _ _ r c.in_ok-expect.ensures.taken (second_left _ _ pairs.Map s _ _ _ r c.in_ok-key.ensures.one h))).may)

-- ---- enums
pub read_enum-loop-init : goal.read_enum-loop-init
read_enum-loop-init t c =
    let leads = c.take-leads.ensures in
    let none = c.new-variants.ensures.items in
    record {
      begun = inl (none, refl);
      differ = rw none tt;
      short = omega arith;
      left = λ s r h goes. rw none (enum_begins _ _ s _ _ r h leads.taken leads.left (λ missed. leads.none missed refl));
    }

pub read_enum-returns-in_err-variant : goal.read_enum-returns-in_err-variant
read_enum-returns-in_err-variant t c =
    reads_err _ c.from_residual.ensures.1 (refusal (λ (s, r, h, goes). variant_begins _ _ _ s _ r (c.loop.invariant.left s r h goes) goes) c.in_err-variant.ensures.refused)

pub read_enum-returns-in_err-push : goal.read_enum-returns-in_err-push
read_enum-returns-in_err-push t c = reads_err _ c.from_residual-in_err-push.ensures.1 (inl c.in_err-push.ensures.only_out_of_memory)

pub read_enum-returns-then-not-leads : goal.read_enum-returns-then-not-leads
read_enum-returns-then-not-leads t c =
    refuses (inr (λ (s, r, h, goes).
    let end = enum_end _ _ _ s _ r (enum_after _ _ _ s c.in_ok-variant.variant _ _ r (c.loop.invariant.left s r h goes) goes c.in_ok-variant.ensures.one) (c.take.ensures.none c.if-not-take.true refl) in
    let many = end.many c.if-not-leads.true in
    let long = ap length c.in_ok-push.ensures.added in
    let one : length c.push.new.items.items ≡ 1 = grind (arith, common_steps) in
    omega (arith, many, long, one)))

pub read_enum-returns-then-not-take : goal.read_enum-returns-then-not-take
read_enum-returns-then-not-take t c =
    let x = c.in_ok-variant.variant in
    let P = IsVariantText (IsType c.args.depth) in
    let variant = forget_new _ P x _ _ c.in_ok-variant.ensures.spelled in
    let row = begun_more P 124 _ x _ _ _ c.loop.invariant.begun variant in
    let differ = names_more _ x c.loop.invariant.differ (is_new _ P x _ _ c.in_ok-variant.ensures.spelled) in
    let added = c.in_ok-push.ensures.added in
    let v = c.push.new.items in
    let leads = c.take-leads in
    let same = c.take.ensures.left c.if-not-take.true in
    let long : length v.items ≡ length c.loop.variants.items + 1 = ap length added ∙ length_push c.loop.variants.items x in
    let filled : TakesPhrase (Separated P 124 v.items) leads.new.rest.now c.read_variant.new.rest.now = rw added row in
    let some = row_filled P 124 v.items filled.0 filled.1 in
    let many : (leads.result ≡ true) ⊎ (1 < length v.items) = elim c.else-len-eq1.branch [
      | read_enum-else-len-eq1-via-then-len-eq1+else-not-leads w ↦ inl w.if-not-leads.false
      | read_enum-else-len-eq1-via-else-len-eq1 w ↦ inr (let other = w.if-len-eq1.false in grind (arith, common_steps, other, some))
    ] in
    record {
      spelled = enum_takes _ v _ _ _ _ leads.ensures.taken leads.ensures.left many (rw added differ) (rw same filled);
      one = λ s r h goes.
          let end = enum_end _ _ _ s _ r (enum_after _ _ _ s c.in_ok-variant.variant _ _ r (c.loop.invariant.left s r h goes) goes c.in_ok-variant.ensures.one) (c.take.ensures.none c.if-not-take.true refl) in
          (end.is ∙ sym (type_of_enum v ∙ ap (λ ns. choice (types_of (contents ns))) added), end.same ∙ sym same);
      refused = tt;
    }

pub read_enum-loop-preserved : goal.read_enum-loop-preserved
read_enum-loop-preserved t c =
    let x = c.in_ok-variant.variant in
    let P = IsVariantText (IsType c.args.depth) in
    let variant = forget_new _ P x _ _ c.in_ok-variant.ensures.spelled in
    let row = begun_more P 124 _ x _ _ _ c.loop.invariant.begun variant in
    let differ = names_more _ x c.loop.invariant.differ (is_new _ P x _ _ c.in_ok-variant.ensures.spelled) in
    let added = c.in_ok-push.ensures.added in
    let bar = c.take.ensures.taken c.if-not-take.false in
    let le = takes_le (P x) _ _ variant in
    let less = takes_less 124 _ _ bar in
    record {
      begun = inr (takes_two (Separated P 124 _) (IsSign 124) _ _ _ (rw added row) bar);
      differ = rw added differ;
      short = omega (arith, c.loop.invariant.short, le, less);
      left = λ s r h goes. rw added (enum_bar _ _ _ s _ _ r (enum_after _ _ _ s c.in_ok-variant.variant _ _ r (c.loop.invariant.left s r h goes) goes c.in_ok-variant.ensures.one) goes bar);
    }

pub read_enum-returns : goal.read_enum-returns
read_enum-returns t c =
    let none : c.loop.rest.now ≡ [] = is_empty _ (omega (arith, c.loop.invariant.short, c.loop-test.false)) in
    refuses (inr (λ (s, r, h, goes). enum_not_ended _ _ _ s r (rw none at (c.loop.invariant.left s r h goes))))

-- ---- fields
pub read_fields-loop-init : goal.read_fields-loop-init
read_fields-loop-init t c =
    let none = c.new-fields.ensures.items in
    record { begun = inl (none, refl); differ = rw none tt; short = omega arith; left = λ s r h. rw none (fields_begin _ s _ r h) }

pub read_fields-returns-in_err-field : goal.read_fields-returns-in_err-field
read_fields-returns-in_err-field t c =
    reads_err _ c.from_residual.ensures.1 (refusal (λ (s, r, h, free). fields_field _ _ s _ r (c.loop.invariant.left s r h)) c.in_err-field.ensures.refused)

pub read_fields-returns-in_err-push : goal.read_fields-returns-in_err-push
read_fields-returns-in_err-push t c = reads_err _ c.from_residual-in_err-push.ensures.1 (inl c.in_err-push.ensures.only_out_of_memory)

pub read_fields-returns-then-take : goal.read_fields-returns-then-take
read_fields-returns-then-take t c =
    let x = c.in_ok-field.field in
    let P = IsField (IsType c.args.depth) in
    let field = forget_new _ P x _ _ c.in_ok-field.ensures.spelled in
    let row = begun_more P 44 _ x _ _ _ c.loop.invariant.begun field in
    let differ = names_more _ x c.loop.invariant.differ (is_new _ P x _ _ c.in_ok-field.ensures.spelled) in
    let added = c.in_ok-push.ensures.added in
    let v = c.push.new.items in
    let comma = c.take-comma.ensures in
    let close = c.take.ensures.taken c.if-take.true in
    record {
      spelled = fields_take _ v _ _ _ _ (rw added differ) (rw added row) (maybe_takes 44 _ _ _ comma.taken comma.left) close;
      one = λ s r h free.
          let k = fields_close _ _ s _ _ _ _ r (fields_after _ _ s c.in_ok-field.field _ _ r (c.loop.invariant.left s r h) c.in_ok-field.ensures.one) comma.taken comma.left close in
          (k.is ∙ sym (type_of_struct v ∙ ap (λ ns. group (types_of (contents ns))) added), k.same);
      refused = tt;
    }

pub read_fields-returns-then-not-comma : goal.read_fields-returns-then-not-comma
read_fields-returns-then-not-comma t c =
    let missed = c.if-not-comma.true in
    let no_close = rw (c.take-comma.ensures.left missed) at (c.take.ensures.none c.if-take.false refl) in
    refuses (inr (λ (s, r, h, free). fields_go_on _ _ s _ r (fields_after _ _ s c.in_ok-field.field _ _ r (c.loop.invariant.left s r h) c.in_ok-field.ensures.one) no_close (c.take-comma.ensures.none missed refl)))

pub read_fields-loop-preserved : goal.read_fields-loop-preserved
read_fields-loop-preserved t c =
    let x = c.in_ok-field.field in
    let P = IsField (IsType c.args.depth) in
    let field = forget_new _ P x _ _ c.in_ok-field.ensures.spelled in
    let row = begun_more P 44 _ x _ _ _ c.loop.invariant.begun field in
    let differ = names_more _ x c.loop.invariant.differ (is_new _ P x _ _ c.in_ok-field.ensures.spelled) in
    let added = c.in_ok-push.ensures.added in
    let comma = c.take-comma.ensures.taken c.if-not-comma.false in
    let same = c.take.ensures.left c.if-take.false in
    let le = takes_le (P x) _ _ field in
    let less = takes_less 44 _ _ comma in
    let kept = ap length same in
    record {
      begun = inr (takes_two (Separated P 44 _) (IsSign 44) _ c.read_field.new.rest.now _ (rw added row) (rw same comma));
      differ = rw added differ;
      short = omega (arith, c.loop.invariant.short, le, less, kept);
      left = λ s r h. rw (added, same) (fields_next _ _ s _ _ r (fields_after _ _ s c.in_ok-field.field _ _ r (c.loop.invariant.left s r h) c.in_ok-field.ensures.one) comma (c.take.ensures.none c.if-take.false refl));
    }

pub read_fields-returns : goal.read_fields-returns
read_fields-returns t c =
    let none : c.loop.rest.now ≡ [] = is_empty _ (omega (arith, c.loop.invariant.short, c.loop-test.false)) in
    refuses (inr (λ (s, r, h, free). fields_not_ended _ _ s r (rw none at (c.loop.invariant.left s r h))))

pub read_field-returns-then-not-is_identifier : goal.read_field-returns-then-not-is_identifier
read_field-returns-then-not-is_identifier t c =
    let before = c.args.before.now.items in
    let word = c.take_word-name in
    let P = IsField (IsType c.args.depth) in
    let front : (x : Named Schema) (r : List ℕ) → TakesPhrase (IsNew before P x) c.args.rest.now.now r → FieldFront (IsType c.args.depth) x word.result.now word.new.rest.now r = λ x r h.
    field_front _ x _ _ _ r (word_taken word.ensures.taken word.ensures.first word.ensures.whole) (forget_new before P x _ r h) in
    refuses (inr (λ (x, r, h, goes). true≢false (sym (c.is_identifier.ensures.1 (front x r h).named) ∙ c.if-not-is_identifier.true)))

pub read_field-returns-in_err-check_new : goal.read_field-returns-in_err-check_new
read_field-returns-in_err-check_new t c =
    let before = c.args.before.now.items in
    let word = c.take_word-name in
    let P = IsField (IsType c.args.depth) in
    let front : (x : Named Schema) (r : List ℕ) → TakesPhrase (IsNew before P x) c.args.rest.now.now r → FieldFront (IsType c.args.depth) x word.result.now word.new.rest.now r = λ x r h.
    field_front _ x _ _ _ r (word_taken word.ensures.taken word.ensures.first word.ensures.whole) (forget_new before P x _ r h) in
    reads_err _ c.from_residual.ensures.1 (inr (λ (x, r, h, goes).
    taken_not_new before _ (subst (IsNewTo before) (front x r h).called (is_new before P x _ r h)) c.in_err-check_new.ensures.twice.2))

pub read_field-returns-in_err-expect : goal.read_field-returns-in_err-expect
read_field-returns-in_err-expect t c =
    let before = c.args.before.now.items in
    let word = c.take_word-name in
    let P = IsField (IsType c.args.depth) in
    let front : (x : Named Schema) (r : List ℕ) → TakesPhrase (IsNew before P x) c.args.rest.now.now r → FieldFront (IsType c.args.depth) x word.result.now word.new.rest.now r = λ x r h.
    field_front _ x _ _ _ r (word_taken word.ensures.taken word.ensures.first word.ensures.whole) (forget_new before P x _ r h) in
    reads_err _ c.from_residual-in_err-expect.ensures.1 (inr (λ (x, r, h, goes). let f = front x r h in c.in_err-expect.ensures.none refl f.colon f.takes_colon))

pub read_field-returns-in_err-content : goal.read_field-returns-in_err-content
read_field-returns-in_err-content t c =
    let before = c.args.before.now.items in
    let word = c.take_word-name in
    let P = IsField (IsType c.args.depth) in
    let front : (x : Named Schema) (r : List ℕ) → TakesPhrase (IsNew before P x) c.args.rest.now.now r → FieldFront (IsType c.args.depth) x word.result.now word.new.rest.now r = λ x r h.
    field_front _ x _ _ _ r (word_taken word.ensures.taken word.ensures.first word.ensures.whole) (forget_new before P x _ r h) in
    let colon = c.in_ok-expect.ensures.taken in
    reads_err _ c.from_residual-in_err-content.ensures.1 (refusal (λ (x, r, h, goes).
    (x.content, r, field_content _ x _ _ _ r (front x r h) colon, goes)) c.in_err-content.ensures.refused)

pub read_field-returns : goal.read_field-returns
read_field-returns t c =
    let before = c.args.before.now.items in
    let word = c.take_word-name in
    let P = IsField (IsType c.args.depth) in
    let front : (x : Named Schema) (r : List ℕ) → TakesPhrase (IsNew before P x) c.args.rest.now.now r → FieldFront (IsType c.args.depth) x word.result.now word.new.rest.now r = λ x r h.
    field_front _ x _ _ _ r (word_taken word.ensures.taken word.ensures.first word.ensures.whole) (forget_new before P x _ r h) in
    let colon = c.in_ok-expect.ensures.taken in
    let content = c.in_ok-content.ensures in
    let named = c.is_identifier.ensures.0 c.if-not-is_identifier.false in
    reads_made c.named.result c.named.ensures.held c.named.ensures.refused
    (λ y called. record {
      spelled =
          let k = field_takes (IsType c.args.depth) y _ _ _ _ _ _ word.ensures.taken colon content.spelled called named in
          (k.0, (subst (IsNewTo before) (sym called.0) c.in_ok-check_new.ensures.new, k.1), k.2);
      one = λ x r h goes.
          let f = front x r h in
          let only = content.one x.content r (field_content (IsType c.args.depth) x _ _ _ r f colon) goes in
          (named_alike x y _ _ f.called called only.0, only.1);
      refused = tt;
    }) (λ _. word.ensures.taken.1.0)

-- ---- tuples
pub read_tuple-returns-then-take : goal.read_tuple-returns-then-take
read_tuple-returns-then-take t c =
    let v = c.new-parts.result in
    let close = c.take.ensures.taken c.if-take.true in
    let typed = type_of_tuple v ∙ ap (λ ss. group (types_of ss)) c.new-parts.ensures.items in
    record {
      spelled = takes_as (IsSign 41) _ _ _ (λ t k. inl (v, refl, c.new-parts.ensures.items, k)) close;
      one = λ s r h free. let k = tuple_empty _ s _ _ r h close in (k.0 ∙ sym typed, k.1);
      refused = tt;
    }

pub read_tuple-returns-in_err-first : goal.read_tuple-returns-in_err-first
read_tuple-returns-in_err-first t c =
    let first = rw (c.take.ensures.left c.if-take.false) at c.in_err-first.ensures.refused in
    reads_err _ c.from_residual.ensures.1 (refusal (λ (s, r, h, free). tuple_begins _ s _ r (tuple_first _ s _ r h (c.take.ensures.none c.if-take.false refl))) first)

pub read_tuple-returns-then-take-2 : goal.read_tuple-returns-then-take-2
read_tuple-returns-then-take-2 t c =
    let x = c.in_ok-first.first in
    let first = rw (c.take.ensures.left c.if-take.false) at c.in_ok-first.ensures.spelled in
    let one = rw (c.take.ensures.left c.if-take.false) at c.in_ok-first.ensures.one in
    let close = c.take-2.ensures.taken c.if-take-2.true in
    record {
      spelled = takes_as _ _ _ _ (λ t k. inr (inl k)) (takes_two _ (IsSign 41) _ _ _ first close);
      one = λ s r h free. tuple_single _ s x _ _ _ r one (tuple_first _ s _ r h (c.take.ensures.none c.if-take.false refl)) close;
      refused = tt;
    }

pub read_tuple-returns-in_err-push : goal.read_tuple-returns-in_err-push
read_tuple-returns-in_err-push t c = reads_err _ c.from_residual-in_err-push.ensures.1 (inl c.in_err-push.ensures.only_out_of_memory)

pub read_tuple-loop-init : goal.read_tuple-loop-init
read_tuple-loop-init t c =
    let x = c.in_ok-first.first in
    let first = rw (c.take.ensures.left c.if-take.false) at c.in_ok-first.ensures.spelled in
    let one = rw (c.take.ensures.left c.if-take.false) at c.in_ok-first.ensures.one in
    let kept = c.take-2.ensures.left c.if-take-2.false in
    let added : c.push.new.items.items ≡ x ∷ [] = c.in_ok-push.ensures.added ∙ ap (λ ss. ss ++ x ∷ []) c.new-parts.ensures.items in
    let unclosed = c.take-2.ensures.none c.if-take-2.false refl in
    record {
      taken = rw (added, kept) first;
      short = omega arith;
      unclosed = rw kept unclosed;
      left = λ s r h. rw (added, kept) (tuple_after_first _ s x _ _ r one (tuple_first _ s _ r h (c.take.ensures.none c.if-take.false refl)) unclosed);
    }

pub read_tuple-returns-in_err-expect : goal.read_tuple-returns-in_err-expect
read_tuple-returns-in_err-expect t c =
    reads_err _ c.from_residual-in_err-expect.ensures.1 (inr (λ (s, r, h, free).
    tuple_go_on _ _ s _ r (c.loop.invariant.left s r h) c.loop.invariant.unclosed (c.in_err-expect.ensures.none refl)))

pub read_tuple-returns-then-take-3 : goal.read_tuple-returns-then-take-3
read_tuple-returns-then-take-3 t c =
    let v = c.loop.parts in
    let comma = c.in_ok-expect.ensures.taken in
    let close = c.take-in-loop.ensures.taken c.if-take-3.true in
    record {
      spelled = tuple_takes _ v _ _ _ c.loop.invariant.taken (takes_as _ _ _ _ (λ t k. inl k) (takes_two (IsSign 44) (IsSign 41) _ _ _ comma close));
      one = λ s r h free. let k = tuple_comma_close _ _ s _ _ _ r (c.loop.invariant.left s r h) comma close in (k.0 ∙ sym (type_of_tuple v), k.1);
      refused = tt;
    }

pub read_tuple-returns-in_err-part : goal.read_tuple-returns-in_err-part
read_tuple-returns-in_err-part t c =
    let comma = c.in_ok-expect.ensures.taken in
    let same = c.take-in-loop.ensures.left c.if-take-3.false in
    let unclosed = c.take-in-loop.ensures.none c.if-take-3.false refl in
    let part = rw same at c.in_err-part.ensures.refused in
    reads_err _ c.from_residual-in_err-part.ensures.1 (refusal (λ (s, r, h, free). tuple_next_begins _ _ s _ r (tuple_next _ _ s _ _ r (c.loop.invariant.left s r h) comma unclosed)) part)

pub read_tuple-returns-in_err-push-2 : goal.read_tuple-returns-in_err-push-2
read_tuple-returns-in_err-push-2 t c = reads_err _ c.from_residual-in_err-push-2.ensures.1 (inl c.in_err-push-2.ensures.only_out_of_memory)

pub read_tuple-returns-then-take-4 : goal.read_tuple-returns-then-take-4
read_tuple-returns-then-take-4 t c =
    let comma = c.in_ok-expect.ensures.taken in
    let same = c.take-in-loop.ensures.left c.if-take-3.false in
    let unclosed = c.take-in-loop.ensures.none c.if-take-3.false refl in
    let part = rw same at c.in_ok-part.ensures.spelled in
    let one = rw same at c.in_ok-part.ensures.one in
    let row = row_more (IsType c.args.depth) 44 _ c.in_ok-part.part _ _ _ _ c.loop.invariant.taken comma part in
    let added = c.in_ok-push-2.ensures.added in
    let v = c.push-in-loop.new.items in
    let done = c.loop.parts.items in
    let close = c.take-in-loop-2.ensures.taken c.if-take-4.true in
    let some : 0 < length done = row_filled _ 44 done c.loop.invariant.taken.0 c.loop.invariant.taken.1 in
    let long : length v.items ≡ length done + 1 = ap length added ∙ length_push done c.in_ok-part.part in
    record {
      spelled = tuple_takes _ v _ _ _ (rw added row) (takes_as _ _ _ _ (λ t k. inr (omega (arith, some, long), k)) close);
      one = λ s r h free.
          let k = tuple_close _ _ s _ _ r (tuple_after _ _ s _ _ _ r (tuple_next _ _ s _ _ r (c.loop.invariant.left s r h) comma unclosed) one) close in
          (k.0 ∙ sym (type_of_tuple v ∙ ap (λ ss. group (types_of ss)) added), k.1);
      refused = tt;
    }

pub read_tuple-loop-preserved : goal.read_tuple-loop-preserved
read_tuple-loop-preserved t c =
    let comma = c.in_ok-expect.ensures.taken in
    let same = c.take-in-loop.ensures.left c.if-take-3.false in
    let unclosed = c.take-in-loop.ensures.none c.if-take-3.false refl in
    let part = rw same at c.in_ok-part.ensures.spelled in
    let one = rw same at c.in_ok-part.ensures.one in
    let row = row_more (IsType c.args.depth) 44 _ c.in_ok-part.part _ _ _ _ c.loop.invariant.taken comma part in
    let added = c.in_ok-push-2.ensures.added in
    let kept = c.take-in-loop-2.ensures.left c.if-take-4.false in
    let le = takes_le _ _ _ part in
    let less = takes_less 44 _ _ comma in
    let stays = ap length kept in
    record {
      taken = rw (added, kept) row;
      short = omega (arith, c.loop.invariant.short, le, less, stays);
      unclosed = rw kept (c.take-in-loop-2.ensures.none c.if-take-4.false refl);
      left = λ s r h. rw (added, kept) (tuple_after _ _ s _ _ _ r (tuple_next _ _ s _ _ r (c.loop.invariant.left s r h) comma unclosed) one);
    }

pub read_tuple-returns : goal.read_tuple-returns
read_tuple-returns t c =
    let none : c.loop.rest.now ≡ [] = is_empty _ (omega (arith, c.loop.invariant.short, c.loop-test.false)) in
    refuses (inr (λ (s, r, h, free). tuple_not_ended _ _ s r (rw none at (c.loop.invariant.left s r h))))

-- ---- references
pub read_referred-references-init : goal.read_referred-references-init
read_referred-references-init t c = record { left = λ s r h. h; takes = λ s r h. h }

pub read_referred-references-smaller : goal.read_referred-references-smaller
read_referred-references-smaller t c =
    let less = takes_less 38 _ _ (c.take.ensures.taken c.references-test.true) in
    let le = lifetime_le _ _ c.in_ok-skip_lifetime.ensures.taken in
    omega (arith, less, le)

pub read_referred-references-preserved : goal.read_referred-references-preserved
read_referred-references-preserved t c =
    let sign = c.take.ensures.taken c.references-test.true in
    let lifetime = c.in_ok-skip_lifetime.ensures.taken in
    record {
      left = λ s r h. lifetime_left _ s _ _ r lifetime (reference_left _ s _ _ r sign (c.references.invariant.left s r h));
      takes = λ s r h. c.references.invariant.takes s r (reference_takes _ s _ _ r sign (lifetime_takes _ s _ _ r lifetime h));
    }

pub read_referred-returns-in_err-skip_lifetime : goal.read_referred-returns-in_err-skip_lifetime
read_referred-returns-in_err-skip_lifetime t c =
    let sign = c.take.ensures.taken c.references-test.true in
    reads_err _ c.from_residual.ensures.1 (inr (λ (s, r, h, ends).
    let k = lifetime_next _ s _ r (reference_left _ s _ _ r sign (c.references.invariant.left s r h)) in
    c.in_err-skip_lifetime.ensures.none k.0 k.1))

pub read_referred-returns : goal.read_referred-returns
read_referred-returns t c =
    let none = c.take.ensures.none c.references-test.false refl in
    reads_as (rw (c.take.ensures.left c.references-test.false) at c.read_plain.ensures) (λ s h. c.references.invariant.takes s _ (plain_is_referred _ s _ _ h))
    (λ s r h ends. (referred_is_plain _ s _ r none (c.references.invariant.left s r h), ends))

-- ---- whole types
pub read_type-returns-then-depth-eq0 : goal.read_type-returns-then-depth-eq0
read_type-returns-then-depth-eq0 t c = refuses (inr (λ (s, r, h, goes). no_type _ s _ r (omega (arith, c.if-depth-eq0.true)) h))

pub read_type-returns-then-begins_enum : goal.read_type-returns-then-begins_enum
read_type-returns-then-begins_enum t c =
    let deep : c.args.depth ≡ suc (c.args.depth - 1) = omega (arith, c.if-depth-eq0.false) in
    let starts = c.begins_enum.ensures.0 c.if-begins_enum.true in
    reads_as c.read_enum.ensures (λ s h. type_enum _ _ s _ _ deep h) (λ s r h goes. (type_as_enum _ _ s _ r deep starts goes h, goes))

pub read_type-returns-in_err-schema : goal.read_type-returns-in_err-schema
read_type-returns-in_err-schema t c =
    let deep : c.args.depth ≡ suc (c.args.depth - 1) = omega (arith, c.if-depth-eq0.false) in
    let no_enum : StartsEnum c.args.rest.now.now → ⊥ = λ starts. true≢false (sym (c.begins_enum.ensures.1 starts) ∙ c.if-begins_enum.false) in
    reads_err _ c.from_residual.ensures.1 (refusal (λ (s, r, h, goes).
    let f = type_as_plain _ _ s _ r deep no_enum goes h in
    (f.first, f.rest, f.taken, f.ends)) c.in_err-schema.ensures.refused)

pub read_type-loop-init : goal.read_type-loop-init
read_type-loop-init t c =
    let deep : c.args.depth ≡ suc (c.args.depth - 1) = omega (arith, c.if-depth-eq0.false) in
    let no_enum : StartsEnum c.args.rest.now.now → ⊥ = λ starts. true≢false (sym (c.begins_enum.ensures.1 starts) ∙ c.if-begins_enum.false) in
    record {
      taken = c.in_ok-schema.ensures.spelled;
      left = λ s r h goes.
          let f = type_as_plain _ _ s _ r deep no_enum goes h in
          let only = c.in_ok-schema.ensures.one f.first f.rest f.taken f.ends in
          options_of s _ _ 0 _ _ r only.0 only.1 f.left;
    }

pub read_type-loop-preserved : goal.read_type-loop-preserved
read_type-loop-preserved t c =
    let held = c.in_ok-boxed.field-0 in
    let mark = c.take.ensures.taken c.if-not-take.false in
    let typed : option (type_of c.loop.schema) ≡ type_of (Option held) = ap (λ x. option (type_of x)) (sym c.in_ok-boxed.ensures.held) ∙ sym (type_of_option held) in
    record {
      taken = options_more _ c.loop.counter (c.loop.counter + 1) _ held _ _ _ (omega arith) c.in_ok-boxed.ensures.held c.loop.invariant.taken mark;
      left = λ s r h goes. options_of s (Option held) _ (c.loop.counter + 1) _ _ r typed refl (options_step s _ c.loop.counter _ _ r (c.loop.invariant.left s r h goes) goes mark);
    }

pub read_type-returns-then-not-take : goal.read_type-returns-then-not-take
read_type-returns-then-not-take t c =
    let deep : c.args.depth ≡ suc (c.args.depth - 1) = omega (arith, c.if-depth-eq0.false) in
    let same = c.take.ensures.left c.if-not-take.true in
    record {
      spelled = rw same (type_options _ _ c.loop.counter _ _ _ deep (omega arith) c.loop.invariant.taken);
      one = λ s r h goes.
          let end = options_end s _ c.loop.counter _ r (c.loop.invariant.left s r h goes) (c.take.ensures.none c.if-not-take.true refl) in
          (end.0, end.1 ∙ sym same);
      refused = tt;
    }

pub read_type-returns-then-take : goal.read_type-returns-then-take
read_type-returns-then-take t c =
    refuses (inr (λ (s, r, h, goes).
    options_full s _ c.loop.counter _ _ r (c.loop.invariant.left s r h goes) c.loop-test.false goes (c.take-2.ensures.taken c.if-take.true)))

pub read_type-returns : goal.read_type-returns
read_type-returns t c =
    let deep : c.args.depth ≡ suc (c.args.depth - 1) = omega (arith, c.if-depth-eq0.false) in
    let same = c.take-2.ensures.left c.if-take.false in
    record {
      spelled = rw same (type_options _ _ c.loop.counter _ _ _ deep (omega (arith, c.loop.auto.counter-end)) c.loop.invariant.taken);
      one = λ s r h goes.
          let end = options_end s _ c.loop.counter _ r (c.loop.invariant.left s r h goes) (c.take-2.ensures.none c.if-take.false refl) in
          (end.0, end.1 ∙ sym same);
      refused = tt;
    }

-- ---- variants
pub read_variant-returns-then-not-is_variant_name : goal.read_variant-returns-then-not-is_variant_name
read_variant-returns-then-not-is_variant_name t c =
    let before = c.args.before.now.items in
    let word = c.take_word-name in
    let P = IsVariantText (IsType c.args.depth) in
    let front : (x : Named Schema) (r : List ℕ) → TakesPhrase (IsNew before P x) c.args.rest.now.now r → GoesOnBy follows_variant r
    → VariantFront (IsType c.args.depth) x word.result.now word.new.rest.now r = λ x r h goes.
    variant_front _ x _ _ _ r (word_taken word.ensures.taken word.ensures.first word.ensures.whole) (forget_new before P x _ r h) goes in
    refuses (inr (λ (x, r, h, goes). true≢false (sym (c.is_variant_name.ensures.1 (front x r h goes).named) ∙ c.if-not-is_variant_name.true)))

pub read_variant-returns-in_err-check_new : goal.read_variant-returns-in_err-check_new
read_variant-returns-in_err-check_new t c =
    let before = c.args.before.now.items in
    let word = c.take_word-name in
    let P = IsVariantText (IsType c.args.depth) in
    let front : (x : Named Schema) (r : List ℕ) → TakesPhrase (IsNew before P x) c.args.rest.now.now r → GoesOnBy follows_variant r
    → VariantFront (IsType c.args.depth) x word.result.now word.new.rest.now r = λ x r h goes.
    variant_front _ x _ _ _ r (word_taken word.ensures.taken word.ensures.first word.ensures.whole) (forget_new before P x _ r h) goes in
    reads_err _ c.from_residual.ensures.1 (inr (λ (x, r, h, goes).
    taken_not_new before _ (subst (IsNewTo before) (front x r h goes).called (is_new before P x _ r h)) c.in_err-check_new.ensures.twice.2))

pub read_variant-returns-in_err-content : goal.read_variant-returns-in_err-content
read_variant-returns-in_err-content t c =
    let before = c.args.before.now.items in
    let word = c.take_word-name in
    let P = IsVariantText (IsType c.args.depth) in
    let front : (x : Named Schema) (r : List ℕ) → TakesPhrase (IsNew before P x) c.args.rest.now.now r → GoesOnBy follows_variant r
    → VariantFront (IsType c.args.depth) x word.result.now word.new.rest.now r = λ x r h goes.
    variant_front _ x _ _ _ r (word_taken word.ensures.taken word.ensures.first word.ensures.whole) (forget_new before P x _ r h) goes in
    reads_err _ c.from_residual-in_err-content.ensures.1 (refusal (λ (x, r, h, goes). (x.content, r, (front x r h goes).left, goes)) c.in_err-content.ensures.refused)

pub read_variant-returns : goal.read_variant-returns
read_variant-returns t c =
    let before = c.args.before.now.items in
    let word = c.take_word-name in
    let P = IsVariantText (IsType c.args.depth) in
    let front : (x : Named Schema) (r : List ℕ) → TakesPhrase (IsNew before P x) c.args.rest.now.now r → GoesOnBy follows_variant r
    → VariantFront (IsType c.args.depth) x word.result.now word.new.rest.now r = λ x r h goes.
    variant_front _ x _ _ _ r (word_taken word.ensures.taken word.ensures.first word.ensures.whole) (forget_new before P x _ r h) goes in
    let content = c.in_ok-content.ensures in
    let named = c.is_variant_name.ensures.0 c.if-not-is_variant_name.false in
    reads_made c.named.result c.named.ensures.held c.named.ensures.refused
    (λ y called. record {
      spelled =
          let k = variant_takes _ y _ _ _ _ _ word.ensures.taken content.spelled called named in
          (k.0, (subst (IsNewTo before) (sym called.0) c.in_ok-check_new.ensures.new, k.1), k.2);
      one = λ x r h goes.
          let f = front x r h goes in
          let only = content.one x.content r f.left goes in
          (named_alike x y _ _ f.called called only.0, only.1);
      refused = tt;
    }) (λ _. word.ensures.taken.1.0)
