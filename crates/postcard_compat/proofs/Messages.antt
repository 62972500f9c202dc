-- What follows for bytes from the result of reading them.
use Rattle.std.proofs.Common.{◌≡◌, ℕ, List, [], ◌++◌, length, sym, ap, subst, ◌∙◌, append-nil}
use Rattle.std.proofs.lemmas.List.{append_cancel_left}
use Rattle.postcard_wire.specs.Spelling.{Spells}
use Rattle.postcard_de.specs.Front.{ReadsFront}
use Rattle.postcard_schema.specs.Meaning.{MessageType, reads}
use Rattle.postcard_value.specs.Fronts.{HasNone}
use Rattle.postcard_value.specs.Tree.{IsTree, tree}
use Rattle.postcard_value.specs.TypeLaws.{type_delimited}
use Rattle.postcard_value.specs.declared.value.Value.{Value}
use Rattle.postcard_compat.specs.Examples.{IsMessage, IsNoMessage, IsReading}
use Rattle.postcard_compat.specs.declared.example.Reading.TheVariants.{Read}

module _ (t : MessageType) (bytes : List ℕ) where
  module _ (v : Value) (after : List ℕ) (f : ReadsFront (reads t) IsTree bytes v after) where
    is_read : reads t (tree v)
    is_read = subst (reads t) f.has f.is_read

    is_spelled : Spells (tree v) f.front
    is_spelled = subst (λ s. Spells s f.front) f.has f.is_spelled

    pub whole_message : after ≡ [] → IsMessage t bytes v
    whole_message none =
        let all : bytes ≡ f.front = f.joins ∙ (ap (λ (l : List ℕ). f.front ++ l) none ∙ append-nil f.front) in
        (is_read, subst (Spells (tree v)) (sym all) is_spelled)

    pub no_message : (after ≡ [] → ⊥) → IsNoMessage t bytes
    no_message some s r k =
        let d = type_delimited t f.tree s f.front bytes after [] f.is_read r f.is_spelled k (sym f.joins ∙ sym (append-nil bytes)) in
        let joined : bytes ++ [] ≡ bytes ++ after = append-nil bytes ∙ (f.joins ∙ ap (λ (l : List ℕ). l ++ after) d.0) in
        some (sym (append_cancel_left bytes [] after joined))

    pub reading_is : (left : ℕ) → left ≡ length after → IsReading t bytes (Read v left)
    reading_is left e = (is_read, (f.front, after, is_spelled, f.joins, sym e))

  pub refused_message : HasNone t bytes → IsNoMessage t bytes
  refused_message none s r k = none bytes [] (sym (append-nil bytes)) (s, r, k)
