-- The laws of serving: it is reflexive and transitive, and a new type that serves an old one reads its messages whole and unchanged.
use Rattle.std.proofs.Common.{◌≡◌, ℕ, List, ◌++◌, sym, ap, ◌∙◌}
use Rattle.postcard_wire.specs.Tree.{Tree}
use Rattle.postcard_wire.specs.Spelling.{Spells, canonical}
use Rattle.postcard_wire.proofs.Shortest.{Spells-canonical}
use Rattle.postcard_schema.specs.Meaning.{MessageType, reads}
use Rattle.postcard_value.specs.TypeLaws.{type_delimited, type_well_formed}
use Rattle.postcard_compat.specs.Said.{said}
use Rattle.postcard_compat.specs.Serving.{Serves}
use Rattle.postcard_compat.proofs.Served.{itself, through}

-- A type serves itself.
pub reflexive : (a : MessageType) → Serves a a
reflexive a = itself (reads a) (said a)

-- If `c` serves `b`, and `b` serves `a`, then `c` serves `a`.
pub transitive : (a b c : MessageType) → Serves c b → Serves b a → Serves c a
transitive a b c = through (reads c) (said c) (reads b) (said b) (reads a) (said a)

-- What the old type writes is a message of the new type that says the same. Whatever bytes follow it, the new type reads just that message.
pub read_whole : (new old : MessageType) → Serves new old → (t : Tree) (rest : List ℕ) → reads old t
    → (s : Tree) × reads new s × (said new s ≡ said old t) × Spells s (canonical t)
    × ((u : Tree) (q x : List ℕ) → reads new u → Spells u q → q ++ x ≡ canonical t ++ rest → (q ≡ canonical t) × (u ≡ s))
read_whole new old h t rest r =
    let (s, p, same, spelled) = h t r in
    let whole = spelled (canonical t) (Spells-canonical t (type_well_formed old t r)) in
    (s, p, same, whole, λ u q x w k e. type_delimited new u s q (canonical t) x rest w p k whole e)

-- If one type serves both, then what the new type reads of an old message is the whole message, and says the same, whatever follows.
-- Nothing is misread, and no byte of a next message is taken.
pub never_misread : (both new old : MessageType) → Serves both old → Serves both new → (t s : Tree) (p q x y : List ℕ)
    → reads old t → reads new s → Spells t p → Spells s q → p ++ x ≡ q ++ y → (p ≡ q) × (said new s ≡ said old t)
never_misread both new old h k t s p q x y r w sp sq e =
    let (a, ra, same, spells_a) = h t r in
    let (b, rb, also, spells_b) = k s w in
    let d = type_delimited both a b p q x y ra rb (spells_a p sp) (spells_b q sq) e in
    (d.0, sym also ∙ (ap (said both) (sym d.1) ∙ same))
