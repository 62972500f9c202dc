-- Lemmas from which the verdicts of `compare` follow.
use Rattle.std.proofs.Common.{◌≡◌, ℕ, List, [], ◌++◌, Option, Some, IfSome, sym, ap, subst, ◌∙◌, append_assoc, append-nil}
use Rattle.postcard_schema.specs.declared.schema.Schema.{Schema}
use Rattle.postcard_schema.specs.Meaning.{MessageType, type_of}
use Rattle.postcard_value.specs.TypeLaws.{type_delimited}
use Rattle.postcard_compat.specs.Comparing.{IsCompared, Means, NeverMisreads, Relates}
use Rattle.postcard_compat.specs.Examples.{IsExample}
use Rattle.postcard_compat.specs.Said.{Word, said}
use Rattle.postcard_compat.specs.Serving.{Serves, ServesFront}
use Rattle.postcard_compat.specs.declared.comparison.Comparison.{Comparison}
use Rattle.postcard_compat.specs.declared.comparison.Relation.{Relation}
use Rattle.postcard_compat.specs.declared.comparison.Relation.TheVariants.{Same, Front, Refuses, Unknown}
use Rattle.postcard_compat.proofs.Consequences.{transitive}

-- A type that serves another reads a prefix of each of its messages: the whole message.
pub serves_is_front : (n o : MessageType) → Serves n o → ServesFront n o
serves_is_front n o h t r =
    let (s, q, same, spelled) = h t r in
    (s, [], q, sym same ∙ sym (append-nil (said n s)), λ p k. (p, [], spelled p k, sym (append-nil p)))

-- If a type serves the old type and the first parts of the new one, the new type misreads nothing.
pub front_never_misreads : (j n o : MessageType) → Serves j o → ServesFront j n → NeverMisreads n o
front_never_misreads j n o h k t s p q x y r w sp sq e =
    let (a, ra, same, spells_a) = h t r in
    let (b, more, rb, says, front) = k s w in
    let (first, rest, spells_b, is) = front q sq in
    let joined : p ++ x ≡ first ++ (rest ++ y) = e ∙ (ap (λ (l : List ℕ). l ++ y) is ∙ append_assoc first rest y) in
    let d = type_delimited j a b p first x (rest ++ y) ra rb (spells_a p sp) spells_b joined in
    let said_same : said j b ≡ said o t = ap (said j) (sym d.1) ∙ same in
    (rest, more, is ∙ ap (λ (l : List ℕ). l ++ rest) (sym d.0), says ∙ ap (λ (ws : List Word). ws ++ more) said_same)

-- If a type that serves both was found, nothing is misread.
pub never_of_both : (n o : MessageType) (found : Option Schema) (j : Schema) → found ≡ Some j → IfSome found (λ x. Serves (type_of x) o × Serves (type_of x) n)
    → NeverMisreads n o
never_of_both n o found j is h =
    let k = subst (λ (f : Option Schema). IfSome f (λ x. Serves (type_of x) o × Serves (type_of x) n)) is h in
    front_never_misreads (type_of j) n o k.0 (serves_is_front (type_of j) n k.1)

module _ (n flat_n flat_o o : MessageType) (to : Serves n flat_n) (of : Serves flat_n n) (old : Serves flat_o o) where
  never_of : NeverMisreads flat_n flat_o → NeverMisreads n o
  never_of h t s p q x y r w sp sq e =
      let (a, ra, same_a, spells_a) = old t r in
      let (b, rb, same_b, spells_b) = of s w in
      let (z, more, is, says) = h a b p q x y ra rb (spells_a p sp) (spells_b q sq) e in
      (z, more, is, sym same_b ∙ (says ∙ ap (λ (ws : List Word). ws ++ more) same_a))

  front_of : ServesFront flat_n flat_o → ServesFront n o
  front_of h t r =
      let (a, ra, same_a, spells_a) = old t r in
      let (b, more, rb, says, front) = h a ra in
      let (c, rc, same_c, spells_c) = to b rb in (
        c,
        more,
        rc,
        sym same_a ∙ (says ∙ ap (λ (ws : List Word). ws ++ more) (sym same_c)),
        λ p k. let (x, y, sx, is) = front p (spells_a p k) in (x, y, spells_c x sx, is),
      )

  -- What is known of the flattened types is known of the types.
  pub relates_of : (relation : Relation) → Relates flat_n flat_o relation → Relates n o relation
  relates_of Same h = transitive o flat_n n to (transitive o flat_o flat_n h old)
  relates_of Front h = front_of h
  relates_of Refuses h = never_of h
  relates_of Unknown h = tt

pub is_compared : (old new : MessageType) (c : Comparison) → Means old new c.differences.items c.example c.verdict → IfSome c.example (IsExample old new)
    → IsCompared old new c
is_compared old new c means example = record {
  same = λ e. subst (Means old new c.differences.items c.example) e means;
  front = λ e. subst (Means old new c.differences.items c.example) e means;
  refuses = λ e. subst (Means old new c.differences.items c.example) e means;
  misread = λ e. subst (Means old new c.differences.items c.example) e means;
  example = example;
}
