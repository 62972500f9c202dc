-- The name at the loop's place, and then those after it.
use Rattle.std.proofs.Common.{◌≡◌, ℕ, zero, suc, ◌+◌, ◌-◌, ◌<◌, ◌==◌, false, List, [], ◌∷◌, length, get_or, take, drop, subst, refl, sym, ap, ◌∙◌, true≢false, arith, inl, inr}
use Rattle.std.specs.Prelude.{string_bytes}
use Rattle.postcard_schema.specs.Views.{named_views}
use Rattle.postcard_schema.specs.declared.schema.Named.{Named}
use Rattle.postcard_schema.specs.declared.schema.Schema.{Schema}
use Rattle.postcard_schema_text.specs.declared.error.TextError.{TextError}
use Rattle.postcard_schema_text.specs.declared.error.TextError.TheVariants.{Name, NameTwice}
use Rattle.postcard_schema_text.specs.declared.expressible.Kind.{Kind}
use Rattle.postcard_schema_text.specs.Expressible.{AreNames, AreSomeNames, HasNameFlaw, HasNamesFlaw, IsFreeIn, IsTakenBy}
use Rattle.postcard_schema_text.proofs.Reaches.{reached, reached_end, slice_end}
use Rattle.postcard_schema_text.proofs.expressible.check_names.Goals as goal

some_items : (n : ℕ) → false ≡ (n == 0) → 0 < n
some_items zero e = absurd (grind (arith, e))
some_items (suc n) e = omega arith

-- A flaw of a name is one of the names.
some_flaw : (e : TextError) (kind : Kind) (ns : List (Named Schema)) → HasNameFlaw e kind (named_views ns) → HasNamesFlaw e kind (named_views ns)
some_flaw e kind [] h = absurd h
some_flaw e kind (n ∷ ns) h = h

some_names : (kind : Kind) (ns : List (Named Schema)) → 0 < length ns → AreNames kind (named_views ns) → AreSomeNames kind (named_views ns)
some_names kind [] some h = absurd (omega (arith, some))
some_names kind (n ∷ ns) some h = h

pub returns-then-not-is_name : goal.returns-then-not-is_name
returns-then-not-is_name c =
    let ns = c.args.named.now.items in
    let kind = c.args.kind in
    let i = c.loop-i.i in
    let x = c.part-item.result in
    let here : x ≡ get_or ns i x = c.part-item.is ∙ ap (λ xs. get_or xs i x) c.deref-part-items.ensures.value in
    some_flaw Name kind ns (reached (λ ms. HasNameFlaw Name kind (named_views ms)) ns i x (omega arith) here (c.loop-i.invariant.flaw Name)
    (inl (refl, λ h. true≢false (sym (c.is_name.ensures.1 (rw c.deref.ensures h)) ∙ c.if-not-is_name.true))))

pub returns-then-is_taken : goal.returns-then-is_taken
returns-then-is_taken c =
    let ns = c.args.named.now.items in
    let kind = c.args.kind in
    let i = c.loop-i.i in
    let x = c.part-item.result in
    let here : x ≡ get_or ns i x = c.part-item.is ∙ ap (λ xs. get_or xs i x) c.deref-part-items.ensures.value in
    let ys = c.deref-in-loop-i.result.now in
    let taken : IsTakenBy (named_views (drop (i + 1) ns)) (string_bytes x.name) =
    subst (λ ms. IsTakenBy (named_views ms) (string_bytes x.name)) (slice_end ys ns (i + 1) c.deref-in-loop-i.ensures.value)
    (subst (λ n. IsTakenBy (named_views (take (length ys - (i + 1)) (drop (i + 1) ys))) n) c.deref-in-loop-i-2.ensures c.if-is_taken.ensures) in
    some_flaw NameTwice kind ns (reached (λ ms. HasNameFlaw NameTwice kind (named_views ms)) ns i x (omega arith) here (c.loop-i.invariant.flaw NameTwice)
    (inr (inl (refl, taken))))

pub loop-i-preserved : goal.loop-i-preserved
loop-i-preserved c =
    let ns = c.args.named.now.items in
    let kind = c.args.kind in
    let i = c.loop-i.i in
    let x = c.part-item.result in
    let here : x ≡ get_or ns i x = c.part-item.is ∙ ap (λ xs. get_or xs i x) c.deref-part-items.ensures.value in
    let ys = c.deref-in-loop-i.result.now in
    let free : IsFreeIn (named_views (drop (i + 1) ns)) (string_bytes x.name) =
    subst (λ ms. IsFreeIn (named_views ms) (string_bytes x.name)) (slice_end ys ns (i + 1) c.deref-in-loop-i.ensures.value)
    (subst (λ n. IsFreeIn (named_views (take (length ys - (i + 1)) (drop (i + 1) ys))) n) c.deref-in-loop-i-2.ensures c.if-is_taken.ensures) in
    record {
      names = λ h. reached (λ ms. AreNames kind (named_views ms)) ns i x (omega arith) here c.loop-i.invariant.names
          (rw (sym c.deref.ensures) (c.is_name.ensures.0 c.if-not-is_name.false), free, h);
      flaw = λ e h. reached (λ ms. HasNameFlaw e kind (named_views ms)) ns i x (omega arith) here (c.loop-i.invariant.flaw e) (inr (inr h));
    }

pub returns : goal.returns
returns c =
    let ns = c.args.named.now.items in
    let same = c.deref-part-items.ensures.value in
    let some : 0 < length ns =
    omega (arith, some_items c.args.named.now.len c.if-is_empty.ensures, c.deref-part-items.ensures.len, ap (λ ms. length ms) same) in
    some_names c.args.kind ns some
    (reached_end (λ ms. AreNames c.args.kind (named_views ms)) ns c.loop-i.i
    (omega (arith, c.loop-i-test.false, ap (λ ms. length ms) same)) c.loop-i.invariant.names tt)
