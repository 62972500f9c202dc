-- A type that has an expression has no flaw, not even its depth.
use Rattle.std.proofs.Common.{ℕ, zero, suc, true≢false, sym, ◌∙◌, arith, inl, inr}
use Rattle.postcard_schema.specs.declared.leaf.Leaf.{Leaf}
use Rattle.postcard_schema.specs.declared.leaf.Leaf.TheVariants as leaves
use Rattle.postcard_schema.specs.Views.{View, Views, NamedViews, leaf_view, option_view, seq_view, map_view, array_view, tuple_view, struct_view, enum_view, no_views, then_view, no_names, then_name}
use Rattle.postcard_schema_text.specs.declared.error.TextError.{TextError}
use Rattle.postcard_schema_text.specs.declared.expressible.Kind.{Kind}
use Rattle.postcard_schema_text.specs.declared.expressible.Kind.TheVariants.{Field, Variant}
use Rattle.postcard_schema_text.specs.Expressible.{AllHaveText, AreSomeNames, ContentsHaveText, HasFlaw, HasNamesFlaw, HasText, LeafHasFlaw, LeafHasText, SomeContentHasFlaw, SomeHasFlaw}
use Rattle.postcard_schema_text.proofs.NoText.{no_name}

leaf_excluded : (e : TextError) (n : ℕ) (l : Leaf) → LeafHasText n l → LeafHasFlaw e n l → ⊥
leaf_excluded e n leaves.Bool t f = f
leaf_excluded e n (leaves.Integer i) t f = f
leaf_excluded e n (leaves.Float x) t f = f
leaf_excluded e n leaves.Char t f = f
leaf_excluded e n leaves.Str t f = f
leaf_excluded e n leaves.Bytes t f = f
leaf_excluded e n (leaves.Fixed o i) t (inl f) = omega (arith, t.0, f.1)
leaf_excluded e n (leaves.Fixed o i) t (inr f) = omega (arith, t.1, f.1)

names_excluded : (e : TextError) (kind : Kind) (ns : NamedViews) → AreSomeNames kind ns → HasNamesFlaw e kind ns → ⊥
names_excluded e kind no_names t f = t
names_excluded e kind (then_name name v ns) t f = no_name e kind (then_name name v ns) t f

mutual
  pub excluded : (e : TextError) (n : ℕ) (v : View) → HasText n v → HasFlaw e n v → ⊥
  excluded e zero v t f = t
  excluded e (suc n) (leaf_view l) t f = leaf_excluded e n l t f
  excluded e (suc n) (option_view v) t f = excluded e n v t f
  excluded e (suc n) (seq_view v) t (inl f) = true≢false (sym t.0 ∙ f.1)
  excluded e (suc n) (seq_view v) t (inr f) = excluded e n v t.1 f
  excluded e (suc n) (map_view k v) t (inl f) = true≢false (sym t.0 ∙ f.1)
  excluded e (suc n) (map_view k v) t (inr (inl f)) = excluded e n k t.1 f
  excluded e (suc n) (map_view k v) t (inr (inr f)) = excluded e n v t.2 f
  excluded e (suc n) (array_view count v) t (inl f) = true≢false (sym t.1.0 ∙ f.1)
  excluded e (suc n) (array_view count v) t (inr f) = excluded e n v t.1.1 f
  excluded e (suc n) (tuple_view vs) t f = all_excluded e n vs t f
  excluded e (suc n) (struct_view ns) t (inl f) = names_excluded e Field ns t.0 f
  excluded e (suc n) (struct_view ns) t (inr f) = contents_excluded e n ns t.1 f
  excluded e (suc zero) (enum_view ns) t f = t
  excluded e (suc (suc n)) (enum_view ns) t (inl f) = names_excluded e Variant ns t.0 f
  excluded e (suc (suc n)) (enum_view ns) t (inr f) = contents_excluded e n ns t.1 f

  all_excluded : (e : TextError) (n : ℕ) (vs : Views) → AllHaveText n vs → SomeHasFlaw e n vs → ⊥
  all_excluded e n no_views t f = f
  all_excluded e n (then_view v vs) t (inl f) = excluded e n v t.0 f
  all_excluded e n (then_view v vs) t (inr f) = all_excluded e n vs t.1 f

  contents_excluded : (e : TextError) (n : ℕ) (ns : NamedViews) → ContentsHaveText n ns → SomeContentHasFlaw e n ns → ⊥
  contents_excluded e n no_names t f = f
  contents_excluded e n (then_name name v ns) t (inl f) = excluded e n v t.0 f
  contents_excluded e n (then_name name v ns) t (inr f) = contents_excluded e n ns t.1 f
