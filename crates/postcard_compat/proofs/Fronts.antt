-- A row of parts serves the first parts of a longer row.
use Rattle.std.proofs.Common.{◌≡◌, ℕ, ◌+◌, ◌<◌, ◌≤◌, List, [], ◌∷◌, ◌++◌, length, get_or, drop, refl, sym, ap, ap₂, subst, ◌∙◌, append_assoc}
use Rattle.std.proofs.Math.ListN.{drop_of_length-le}
use Rattle.postcard_wire.specs.Tree.{Group, NoTrees, Then}
use Rattle.postcard_wire.specs.Spelling.{Spells, SpellsAll}
use Rattle.postcard_schema.specs.declared.schema.Schema.{Schema}
use Rattle.postcard_schema.specs.Meaning.{MessageType, MessageTypes, group, no_types, then_type, type_of, types_of}
use Rattle.postcard_compat.specs.Said.{Word, said, said_all}
use Rattle.postcard_compat.specs.Serving.{Serves, ServesFront, AllServeFront}
use Rattle.postcard_compat.proofs.ByKind.{cut}

-- The empty row is a prefix of each row.
pub none_front : (os : MessageTypes) → AllServeFront no_types os
none_front os ts r = (NoTrees, said_all os ts, refl, refl, λ p k. ([], p, refl, refl))

pub then_front : (n o : MessageType) (ns os : MessageTypes) → Serves n o → AllServeFront ns os → AllServeFront (then_type n ns) (then_type o os)
then_front n o ns os h hs ts (u, us, e, q, qs) =
    let (s, r, same, spelled) = h u q in
    let (ss, more, rs, sames, all) = hs us qs in
    let says : said_all (then_type o os) (Then u us) ≡ said_all (then_type n ns) (Then s ss) ++ more =
    ap₂ (λ (a b : List Word). a ++ b) (sym same) sames ∙ sym (append_assoc (said n s) (said_all ns ss) more) in (
      Then s ss,
      more,
      (s, ss, refl, r, rs),
      ap (said_all (then_type o os)) e ∙ says,
      λ p k. let l : SpellsAll (Then u us) p = rw e at k in
          let (x, y, sx, is) = all l.1 l.3 in
          (l.0 ++ x, y, (l.0, x, spelled l.0 l.2, sx, refl), l.4 ∙ (ap (λ (z : List ℕ). l.0 ++ z) is ∙ sym (append_assoc l.0 x y))),
    )

pub group_front : (ns os : MessageTypes) → AllServeFront ns os → ServesFront (group ns) (group os)
group_front ns os h t (ts, e, q) =
    let (ss, more, r, says, all) = h ts q in
    (Group ss, more, (ss, refl, r), ap (said (group os)) e ∙ says, λ p k. let l : Spells (Group ts) p = rw e at k in all p l)

-- If n serves m, m reads a prefix of what o writes, and o serves p, then n reads a prefix of what p writes.
pub front_through : (n m o p : MessageType) → Serves n m → ServesFront m o → Serves o p → ServesFront n p
front_through n m o p h k l t r =
    let (u, ru, same, spelled) = l t r in
    let (s, more, rs, says, front) = k u ru in
    let (v, rv, also, respelled) = h s rs in (
      v,
      more,
      rv,
      sym same ∙ (says ∙ ap (λ z. z ++ more) (sym also)),
      λ q a. let (x, y, b, e) = front q (spelled q a) in (x, y, respelled x b, e),
    )

-- If the parts from k on begin, if those after k do, all do.
pub front_next : (ns os : List Schema) (k : ℕ) (n o : Schema) {Z : Type 0} → k < length ns → n ≡ get_or ns k n → k < length os → o ≡ get_or os k o → Serves (type_of n) (type_of o)
    → (AllServeFront (types_of (drop k ns)) (types_of (drop k os)) → Z) → AllServeFront (types_of (drop (k + 1) ns)) (types_of (drop (k + 1) os)) → Z
front_next ns os k n o ln en lo eo h all rest =
    all (subst (λ ys. AllServeFront (types_of ys) (types_of (drop k os))) (sym (cut ns k n ln en))
    (subst (λ ys. AllServeFront (types_of (n ∷ drop (k + 1) ns)) (types_of ys)) (sym (cut os k o lo eo))
    (then_front (type_of n) (type_of o) (types_of (drop (k + 1) ns)) (types_of (drop (k + 1) os)) h rest)))

pub front_end : (ns os : List Schema) (k : ℕ) {Z : Type 0} → length ns ≤ k → (AllServeFront (types_of (drop k ns)) (types_of (drop k os)) → Z) → Z
front_end ns os k high all =
    all (subst (λ ys. AllServeFront (types_of ys) (types_of (drop k os))) (sym (drop_of_length-le ns high)) (none_front (types_of (drop k os))))
