-- The tree is well formed, so its canonical encoding is an accepted one. No other prefix of those bytes encodes a tree of the type.
use Rattle.std.proofs.Common.{sym, subst}
use Rattle.postcard_wire.specs.Tree.{Tree}
use Rattle.postcard_wire.proofs.Shortest.{Spells-canonical}
use Rattle.postcard_wire.proofs.WellFormed.{read_again}
use Rattle.postcard.proofs.laws.decodes_encoded.Goals as goal

pub returns-clause-spelled : goal.returns-clause-spelled
returns-clause-spelled g c t is_read = Spells-canonical t (g.T.Shaped.shape.well_formed t is_read)

pub returns-clause-decoded : goal.returns-clause-decoded
returns-clause-decoded g c t rest left v is_read r =
    let D = g.T.Shaped.shape in
    let same = read_again D.reads D.delimited D.well_formed t r.tree r.front rest left is_read r.is_read r.is_spelled (sym r.joins) in
    (subst (λ (s : Tree). D.value s v) same.1 r.has, same.2)
