-- The mutually recursive walk over a value, by the kind of its schema. The lines of a whole are its own line and then those of its parts.
-- If a part can't be read, the walk stops with the lines up to that part (`LineLemmas`).
use Rattle.std.proofs.Common.{◌≡◌, ◌+◌, ◌-◌, ◌<◌, ◌≤◌, [], ◌∷◌, ◌++◌, length, take, take_all, get_or, refl, sym, ap, subst, ◌∙◌, Ok, Err, inl, inr, arith, append_assoc, append-nil}
use Rattle.std.proofs.lemmas.Grind.{common_steps}
use Rattle.std.proofs.lemmas.List.{take_more}
use Rattle.std.specs.Prelude.{min, string_bytes}
use Rattle.postcard_schema.specs.Bounds.{depth}
use Rattle.postcard_schema.specs.Meaning.{type_of}
use Rattle.postcard_wire.specs.Tree.{Num, NoTrees}
use Rattle.postcard_de_nodes.specs.ReadLemmas.{is_refusal}
use Rattle.postcard_value.specs.Fronts.{SpellsEach}
use Rattle.postcard_value.proofs.FrontLemmas.{each_more, number_read}
use Rattle.postcard_explain.specs.declared.line.Expected.TheVariants as expectations
use Rattle.postcard_explain.specs.Explained.{bytes_of, Explains, ExplainsElements, ExplainsItem, ExplainsMore, ExplainsParts, IsMore, of_absent, of_array, of_list, of_present, of_variant, no_elements, no_parts, one_element, one_part}
use Rattle.postcard_explain.specs.Parts.{at_element, at_field, item_of, item_type, named, numbered, parts_of, plain_label, value}
use Rattle.postcard_explain.specs.RefusedLines.{Refuses, RefusesElements, RefusesItem, RefusesMore, RefusesParts, no_count, no_flag, no_index, in_array, in_element, in_list, in_part, in_present, in_variant}
use Rattle.postcard_explain.proofs.LineLemmas.{adds_both, stops_on, walks_on, refused_as, pushed, pushed_on, opened_on, row_as, row_on, value_as, entry_as, more_bytes, more_explained, elements_more, refuses_more}
use Rattle.postcard_explain.proofs.PartLemmas.{length_named, named_at, part_depth, parts_depth, row_depth, variants_depth}
use Rattle.postcard_explain.proofs.Spelled.{item_spelled}
use Rattle.postcard_explain.proofs.part.+explain.Goals as goal

-- ---- each kind of type

pub explain_part-returns-in-Seq : goal.explain_part-returns-in-Seq
explain_part-returns-in-Seq t c = c.explain_list.ensures c.args.schema.now (inl (c.in-Seq.element, c.in-Seq.is, ap value c.deref-in-Seq.ensures))

pub explain_part-returns-in-Map : goal.explain_part-returns-in-Map
explain_part-returns-in-Map t c =
    c.explain_list-in-Map.ensures c.args.schema.now (inr (c.in-Map.key, c.in-Map.value, c.in-Map.is, rw (c.deref-in-Map.ensures, c.deref-in-Map-2.ensures) refl))

pub explain_part-returns-in_ok-depth-in-Array : goal.explain_part-returns-in_ok-depth-in-Array
explain_part-returns-in_ok-depth-in-Array t c =
    let s = c.args.schema.now in
    let m = c.args.most in
    let d = c.args.place.depth in
    let b = plain_label c.args.place.label in
    let held = c.in-Array.element in
    let n = c.in-Array.count in
    let item = value held.value in
    let inner = c.in_ok-depth-in-Array.depth in
    let o = c.in_ok-depth-in-Array.ensures.added in
    opened_on (ExplainsElements m inner item n) (Explains m d b s) (RefusesElements m inner item n) (Refuses m d b s) d inner b o.0 _ _ _ _ c.explain_elements.result o.1
    (λ ls q. of_array _ _ s held n _ o.0 ls c.in-Array.is o.1 q) (λ ls q. in_array _ _ s held n _ o.0 ls c.in-Array.is o.1 q) o.2
    (rw c.deref-in-Array.ensures at c.explain_elements.ensures)

pub explain_part-returns-in-Tuple : goal.explain_part-returns-in-Tuple
explain_part-returns-in-Tuple t c = row_as _ _ _ c.args.schema.now _ (inl (c.in-Tuple.parts, c.in-Tuple.is, refl)) _ _ _ c.explain_row.result c.explain_row.ensures

pub explain_part-returns-in-Struct : goal.explain_part-returns-in-Struct
explain_part-returns-in-Struct t c = row_as _ _ _ c.args.schema.now _ (inr (c.in-Struct.fields, c.in-Struct.is, refl)) _ _ _ c.explain_row-in-Struct.result c.explain_row-in-Struct.ensures

pub explain_item-returns-in-Value : goal.explain_item-returns-in-Value
explain_item-returns-in-Value t c = rw c.in-Value.is (value_as _ _ _ c.in-Value.schema.now _ _ _ c.explain_part.result c.explain_part.ensures)

pub explain_item-returns-in-Entry : goal.explain_item-returns-in-Entry
explain_item-returns-in-Entry t c = rw c.in-Entry.is (entry_as _ _ _ c.in-Entry.key.now c.in-Entry.value.now _ _ _ c.explain_row.result c.explain_row.ensures)

-- ---- why the walk ends

pub explain_part-explain_row-requires : goal.explain_part-explain_row-requires
explain_part-explain_row-requires t c =
    let v = c.in-Tuple.parts in
    let smaller : row_depth (numbered 0 v.items) < depth (type_of c.args.schema.now) = parts_depth _ _ (inl (v, c.in-Tuple.is, refl)) in
    (omega (arith, c.decreases, smaller), tt)

pub explain_part-explain_row-requires-in-Struct : goal.explain_part-explain_row-requires-in-Struct
explain_part-explain_row-requires-in-Struct t c =
    let v = c.in-Struct.fields in
    let smaller : row_depth (named v.items) < depth (type_of c.args.schema.now) = parts_depth _ _ (inr (v, c.in-Struct.is, refl)) in
    (omega (arith, c.decreases, smaller), tt)

pub explain_part-explain_variant-requires : goal.explain_part-explain_variant-requires
explain_part-explain_variant-requires t c = (omega (arith, c.decreases, variants_depth c.args.schema.now c.in-Enum.variants c.in-Enum.is), tt)

pub explain_row-explain_part-requires : goal.explain_row-explain_part-requires
explain_row-explain_part-requires t c =
    let row = parts_of c.args.row in
    let low : c.loop-i.i < length row = omega (arith, c.len-i-end.ensures) in
    (omega (arith, c.decreases, part_depth row c.loop-i.i (plain_label c.part.result.0) c.part.result.1.now low c.part.ensures), tt)

pub explain_variant-explain_part-requires : goal.explain_variant-explain_part-requires
explain_variant-explain_part-requires t c =
    let i = c.in-Ok.read.0 in
    let x = c.in-Some.variant.now in
    let xs = c.args.variants.now.items in
    let inside : i < length c.deref.result.now = grind (arith, common_steps) in
    let low : i < length xs = rw c.deref.ensures.value at inside in
    let found : x ≡ get_or xs i x = rw c.deref.ensures.value at c.in-Some.ensures.lookup.1 in
    let within : i < length (named xs) = rw (length_named xs) low in
    let smaller = part_depth (named xs) i _ x.content within (named_at xs i x (at_field (string_bytes x.name)) low found refl) in
    (omega (arith, c.decreases, smaller), tt)

-- ---- options

pub explain_option-returns-in_default : goal.explain_option-returns-in_default
explain_option-returns-in_default t c = λ s held is inner.
    refused_as c.args.most c.args.place.depth (plain_label c.args.place.label) s expectations.Option _ _ _ c.args.bytes.now c.refuse.result
    (λ line at kind shown other. no_flag _ _ s line held is at kind (λ rest. (
      λ cut. let some : length (0 ∷ rest) ≡ 0 = sym (ap length (sym shown ∙ cut)) ∙ c.in_default.ensures.cases in grind (arith, common_steps, some),
      λ cut. let some : length (1 ∷ rest) ≡ 0 = sym (ap length (sym shown ∙ cut)) ∙ c.in_default.ensures.cases in grind (arith, common_steps, some),
    )))
    c.refuse.ensures

pub explain_option-returns-in_default-first : goal.explain_option-returns-in_default-first
explain_option-returns-in_default-first t c = λ s held is inner.
    refused_as c.args.most c.args.place.depth (plain_label c.args.place.label) s expectations.Option _ _ _ c.args.bytes.now c.refuse-in_default-first.result
    (λ line at kind shown other. no_flag _ _ s line held is at kind (λ rest. (
      λ cut. let same = sym shown ∙ cut in grind (arith, common_steps, c.in_default-first, c.in-Some.ensures.cases.0, same),
      λ cut. let same = sym shown ∙ cut in grind (arith, common_steps, c.in_default-first, c.in-Some.ensures.cases.0, same),
    )))
    c.refuse-in_default-first.ensures

pub explain_option-returns-in_ok-push-in-0 : goal.explain_option-returns-in_ok-push-in-0
explain_option-returns-in_ok-push-in-0 t c = λ s held is inner.
    let p = c.in_ok-push-in-0.ensures.added in
    let cut : c.args.bytes.now ≡ (0 ∷ []) ++ c.in-Some.rest.now = c.in-Some.ensures.cases.0 ∙ ap (λ b. b ∷ c.in-Some.rest.now) c.in-0.is in
    let shown = p.4 ∙ c.front_of.ensures (0 ∷ []) cut in
    pushed (Explains c.args.most c.args.place.depth (plain_label c.args.place.label) s) p.0 _ _ _ (0 ∷ []) _ (of_absent _ _ s p.0 held is p.2 p.3 shown) p.1 shown cut

pub explain_option-returns-in_ok-push-in-1 : goal.explain_option-returns-in_ok-push-in-1
explain_option-returns-in_ok-push-in-1 t c = λ s held is inner.
    let m = c.args.most in
    let d = c.args.place.depth in
    let b = plain_label c.args.place.label in
    let x = c.args.content.now in
    let p = c.in_ok-push-in-1.ensures.added in
    let cut : c.args.bytes.now ≡ (1 ∷ []) ++ c.in-Some.rest.now = c.in-Some.ensures.cases.0 ∙ ap (λ b. b ∷ c.in-Some.rest.now) c.in-1.is in
    let shown = p.4 ∙ c.front_of-in-1.ensures (1 ∷ []) cut in
    let inside = c.inside.result in
    pushed_on m d b s (Explains m inside.depth (plain_label inside.label) x) (Refuses m inside.depth (plain_label inside.label) x)
    p.0 _ _ _ _ (1 ∷ []) _ c.explain_part.result
    (λ ls q. of_present _ _ s p.0 held ls is p.2 p.3 shown (rw (inner, ← c.inside.ensures.depth) (rw c.inside.ensures.label at q)))
    (λ ls q. in_present _ _ s p.0 held ls is p.2 p.3 shown (rw (inner, ← c.inside.ensures.depth) (rw c.inside.ensures.label at q)))
    p.1 shown cut c.explain_part.ensures

-- ---- lists and items

pub explain_list-returns-in_ok-push-in-Ok : goal.explain_list-returns-in_ok-push-in-Ok
explain_list-returns-in_ok-push-in-Ok t c = λ s has.
    let m = c.args.most in
    let d = c.args.place.depth in
    let b = plain_label c.args.place.label in
    let item = item_of c.args.item in
    let inner = c.inside.result.depth in
    let k = c.in-Ok.count in
    let r = c.in-Ok.ensures.gives in
    let p = c.in_ok-push-in-Ok.ensures.added in
    let n = number_read 64 r.tree k r.front r.is_read r.has r.is_spelled in
    let shown = p.4 ∙ c.front_of.ensures r.front r.joins in
    pushed_on m d b s (ExplainsElements m inner item k) (RefusesElements m inner item k)
    p.0 _ _ _ _ r.front _ c.explain_elements.result
    (λ ls q. of_list _ _ s p.0 item k ls has p.2 p.3 n.0 (rw shown n.1) (rw (← c.inside.ensures.depth) q))
    (λ ls q. in_list _ _ s p.0 item k ls has p.2 p.3 n.0 (rw shown n.1) (rw (← c.inside.ensures.depth) q))
    p.1 shown r.joins c.explain_elements.ensures

pub explain_list-returns-in-Err : goal.explain_list-returns-in-Err
explain_list-returns-in-Err t c = λ s has.
    refused_as c.args.most c.args.place.depth (plain_label c.args.place.label) s expectations.Count c.in-Err.error _ _ c.args.bytes.now c.refuse.result
    (λ line at kind shown other. no_count _ _ s line _ has at kind
    (λ n front rest low num cut. (c.in-Err.ensures.accepts (Num 64 n) front rest (n, refl, low) num (sym shown ∙ cut)).1))
    c.refuse.ensures

pub explain_elements-loop-i-init : goal.explain_elements-loop-i-init
explain_elements-loop-i-init t c = ([], no_elements _ _, sym (append-nil _), refl)

pub explain_elements-returns-in_err-rest : goal.explain_elements-returns-in_err-rest
explain_elements-returns-in_err-rest t c =
    let m = c.args.most in
    let d = c.args.depth in
    let x = item_of c.args.item in
    let i = c.loop-i.i in
    let low : i < c.args.count = omega arith in
    rw (is_refusal c.from_residual.result c.in_err-rest.field-0.0 c.from_residual.ensures.1)
    (stops_on (ExplainsElements m d x i) (RefusesItem m d (at_element i) x) (RefusesElements m d x c.args.count)
    (λ a b p q. in_element d x c.args.count i a b low p q)
    _ _ _ _ _ c.in_err-rest.field-0.0 c.loop-i.invariant c.in_err-rest.ensures)

pub explain_elements-loop-i-preserved : goal.explain_elements-loop-i-preserved
explain_elements-loop-i-preserved t c =
    let m = c.args.most in
    let d = c.args.depth in
    let x = item_of c.args.item in
    let i = c.loop-i.i in
    let low : i < m = omega arith in
    adds_both (ExplainsElements m d x i) (ExplainsItem m d (at_element i) x) (ExplainsElements m d x (i + 1)) (λ a b p q. one_element d x i a b low p q)
    _ _ _ _ _ _ c.loop-i.invariant c.in_ok-rest.ensures

pub explain_elements-returns : goal.explain_elements-returns
explain_elements-returns t c =
    let m = c.args.most in
    let d = c.args.depth in
    let x = item_of c.args.item in
    let i = c.loop-i.i in
    let n = c.args.count in
    let end : i ≡ min n m = omega arith in
    walks_on (ExplainsElements m d x i) (ExplainsMore d (at_element m) x (n - m)) (ExplainsElements m d x n) (RefusesMore m d x n) (RefusesElements m d x n)
    (λ a b p q. elements_more m d x i n a b end p q) (λ a b p q. refuses_more m d x i n a b end p q)
    _ _ _ _ _ c.explain_more.result c.loop-i.invariant c.explain_more.ensures

pub explain_more-loop-i-init : goal.explain_more-loop-i-init
explain_more-loop-i-init t c = ([], (NoTrees, (omega arith, tt), refl), refl, refl, omega arith)

pub explain_more-loop-i-preserved : goal.explain_more-loop-i-preserved
explain_more-loop-i-preserved t c =
    let so = c.loop-i.invariant in
    let x = item_type (item_of c.args.item) in
    let r = c.in-Ok.ensures.skipped in
    let one : (c.loop-i.i - c.args.most) + 1 ≡ (c.loop-i.i + 1) - c.args.most = omega arith in (
      so.0 ++ r.0,
      subst (λ k. SpellsEach x k (so.0 ++ r.0)) one (each_more x (c.loop-i.i - c.args.most) r.1.0 so.0 r.0 so.1 r.1.1 r.1.2),
      so.2 ∙ ap (λ q. so.0 ++ q) r.2 ∙ sym (append_assoc so.0 r.0 c.in-Ok.after.now),
      so.3,
      omega arith,
    )

pub explain_more-returns-in_err-explain_item-in-Err : goal.explain_more-returns-in_err-explain_item-in-Err
explain_more-returns-in_err-explain_item-in-Err t c =
    let m = c.args.most in
    let d = c.args.depth in
    let x = item_of c.args.item in
    let i = c.loop-i.i in
    let low : i < c.args.count = omega arith in
    let from : m ≤ i = omega arith in
    let so = c.loop-i.invariant in
    let p = c.in_ok-push_more-in-Err.ensures.added in
    let held : IsMore d (at_element m) (i - m) so.0 p.0 = rw (c.front_of.ensures so.0 so.2) at p.1 in
    let same : bytes_of p.0 ≡ so.0 = more_bytes d (at_element m) (item_type x) (i - m) so.0 p.0 so.1 held in
    let back = c.from_residual-in_err-explain_item-in-Err in
    rw (is_refusal back.result c.in_err-explain_item-in-Err.field-0.0 back.ensures.1)
    (stops_on (λ ls. ls ≡ p.0) (RefusesItem m d (at_element i) x) (RefusesMore m d x c.args.count)
    (λ a b q r. (i, p.0, b, from, low, more_explained d (at_element m) x (i - m) so.0 p.0 so.1 held, r, ap (λ l. l ++ b) q))
    _ _ _ _ _ c.in_err-explain_item-in-Err.field-0.0
    (p.0, refl, p.2 ∙ ap (λ l. l ++ p.0) so.3, so.2 ∙ ap (λ b. b ++ c.loop-i.rest.now) (sym same)) c.in_err-explain_item-in-Err.ensures)

pub explain_more-returns-in-Err : goal.explain_more-returns-in-Err
explain_more-returns-in-Err t c =
    let a = c.in_ok-explain_item-in-Err.ensures in
    let f = item_spelled c.args.most c.args.depth (at_element c.loop-i.i) (item_of c.args.item) a.0 a.1 in
    (c.in-Err.ensures.named_error, λ other. absurd (other (c.in-Err.ensures.accepts (bytes_of a.0) _ f a.3)))

pub explain_more-returns : goal.explain_more-returns
explain_more-returns t c =
    let m = c.args.most in
    let d = c.args.depth in
    let x = item_of c.args.item in
    let n = c.args.count - m in
    let so = c.loop-i.invariant in
    let p = c.in_ok-push_more.ensures.added in
    let all : c.loop-i.i - m ≡ n = omega (arith, so.4) in
    let spells : SpellsEach (item_type x) n so.0 = rw all at so.1 in
    let held : IsMore d (at_element m) n so.0 p.0 = rw (c.front_of-2.ensures so.0 so.2, c.saturating_sub.ensures) at p.1 in
    let same : bytes_of p.0 ≡ so.0 = more_bytes d (at_element m) (item_type x) n so.0 p.0 spells held in
    (p.0, more_explained d (at_element m) x n so.0 p.0 spells held, p.2 ∙ ap (λ l. l ++ p.0) so.3, so.2 ∙ ap (λ b. b ++ c.loop-i.rest.now) (sym same))

-- ---- tuples, structs and entries

pub explain_row-loop-i-init : goal.explain_row-loop-i-init
explain_row-loop-i-init t c = ([], no_parts _, sym (append-nil _), refl)

pub explain_row-returns-in_err-rest : goal.explain_row-returns-in_err-rest
explain_row-returns-in_err-rest t c =
    let m = c.args.most in
    let d = c.args.place.depth in
    let b = plain_label c.args.place.label in
    let inner = c.in_ok-depth.depth in
    let row = parts_of c.args.row in
    let i = c.loop-i.i in
    let name = plain_label c.part.result.0 in
    let x = c.part.result.1.now in
    let e = c.in_err-rest.field-0.0 in
    let o = c.in_ok-depth.ensures.added in
    let low : i < length row = omega (arith, c.len-i-end.ensures) in
    let stopped = stops_on (ExplainsParts m inner (take i row)) (Refuses m inner name x) (RefusesParts m inner row)
    (λ p q h j. in_part inner row i name x p q low c.part.ensures h j) _ _ _ _ _ e c.loop-i.invariant c.in_err-rest.ensures in
    rw (is_refusal c.from_residual-in_err-rest.result e c.from_residual-in_err-rest.ensures.1)
    (row_on m d inner b row o.0 _ _ _ c.args.bytes.now (Err e) o.1 o.2 stopped)

pub explain_row-loop-i-preserved : goal.explain_row-loop-i-preserved
explain_row-loop-i-preserved t c =
    let m = c.args.most in
    let inner = c.in_ok-depth.depth in
    let row = parts_of c.args.row in
    let i = c.loop-i.i in
    let name = plain_label c.part.result.0 in
    let x = c.part.result.1.now in
    let low : i < length row = omega (arith, c.len-i-end.ensures) in
    let more : take (i + 1) row ≡ take i row ++ (name, x) ∷ [] = take_more row i (name, x) low ∙ ap (λ y. take i row ++ y ∷ []) (sym c.part.ensures) in
    adds_both (ExplainsParts m inner (take i row)) (Explains m inner name x) (ExplainsParts m inner (take (i + 1) row))
    (λ p q h j. rw more (one_part inner (take i row) name x p q h j)) _ _ _ _ _ _ c.loop-i.invariant c.in_ok-rest.ensures

pub explain_row-returns : goal.explain_row-returns
explain_row-returns t c =
    let m = c.args.most in
    let d = c.args.place.depth in
    let b = plain_label c.args.place.label in
    let inner = c.in_ok-depth.depth in
    let row = parts_of c.args.row in
    let o = c.in_ok-depth.ensures.added in
    let all : take c.loop-i.i row ≡ row = take_all c.loop-i.i row (omega (arith, c.len-i-end.ensures)) in
    row_on m d inner b row o.0 _ _ _ c.args.bytes.now (Ok c.loop-i.rest) o.1 o.2 (rw all at c.loop-i.invariant)

-- ---- enums

pub explain_variant-returns : goal.explain_variant-returns
explain_variant-returns t c = λ s is.
    let m = c.args.most in
    let d = c.args.place.depth in
    let b = plain_label c.args.place.label in
    let place = c.inside.result in
    let r = c.in-Ok.ensures.gives in
    let i = c.in-Ok.read.0 in
    let x = c.in-Some.variant.now in
    let xs = c.args.variants.now.items in
    let p = c.in_ok-push.ensures.added in
    let n = number_read 32 r.tree i r.front r.is_read r.has r.is_spelled in
    let shown = p.4 ∙ c.front_of.ensures r.front r.joins in
    let inside : i < length c.deref.result.now = grind (arith, common_steps) in
    let low : i < length xs = rw c.deref.ensures.value at inside in
    let found : x ≡ get_or xs i x = rw c.deref.ensures.value at c.in-Some.ensures.lookup.1 in
    pushed_on m d b s (Explains m place.depth (plain_label place.label) x.content) (Refuses m place.depth (plain_label place.label) x.content)
    p.0 _ _ _ _ r.front _ c.explain_part.result
    (λ ls q. of_variant _ _ s p.0 c.args.variants.now i x ls is p.2 low found (rw p.3 (refl, c.deref-2.ensures)) n.0 (rw shown n.1)
    (rw (← c.inside.ensures.depth) (rw c.inside.ensures.label at q)))
    (λ ls q. in_variant _ _ s p.0 c.args.variants.now i x ls is p.2 low found (rw p.3 (refl, c.deref-2.ensures)) n.0 (rw shown n.1)
    (rw (← c.inside.ensures.depth) (rw c.inside.ensures.label at q)))
    p.1 shown r.joins c.explain_part.ensures

pub explain_variant-returns-in-Err : goal.explain_variant-returns-in-Err
explain_variant-returns-in-Err t c = λ s is.
    refused_as c.args.most c.args.place.depth (plain_label c.args.place.label) s expectations.Variant c.in-Err.error _ _ c.args.bytes.now c.refuse.result
    (λ line at kind shown other. no_index _ _ s line c.args.variants.now is at kind
    (λ i front rest low few num cut. (c.in-Err.ensures.accepts (Num 32 i) front rest (i, refl, few) num (sym shown ∙ cut)).1))
    c.refuse.ensures

pub explain_variant-returns-in_default : goal.explain_variant-returns-in_default
explain_variant-returns-in_default t c = λ s is.
    let outside : length c.args.variants.now.items < c.in-Ok.read.0 + 1 = grind (arith, common_steps) in
    refused_as c.args.most c.args.place.depth (plain_label c.args.place.label) s expectations.Variant _ _ _ c.args.bytes.now c.refuse-in_default.result
    (λ line at kind shown other. no_index _ _ s line c.args.variants.now is at kind
    (λ i front rest low few num cut.
    let same : Num 32 i ≡ Num 32 c.in-Ok.read.0 = (c.in-Ok.ensures.accepts (Num 32 i) front rest (i, refl, few) num (sym shown ∙ cut)).0 in
    let equal : i ≡ c.in-Ok.read.0 = cc in
    omega arith))
    c.refuse-in_default.ensures
