-- The text and the end of its line are printed by one call.
use Rattle.std.proofs.Common.{◌+◌, ◌/◌, [], ◌∷◌, ◌++◌, sym, subst, append_assoc}
use Rattle.std.specs.Prelude.{codes, OnOk}
use Rattle.std.specs.Io.KnownBytes.{Appends}
use Rattle.pcard_calls.specs.Size.{least_number, span_text}
use Rattle.pcard_calls.proofs.size.print_bounded.Goals as goal

pub returns : goal.returns
returns g c =
    let least = least_number c.args.least in
    let n = c.args.greatest in
    let behind = codes ", as a frame " ++ span_text (least + 2) (n + n / 254 + 2) in
    let old = g.W.Write.contents c.args.output.now in
    let new = g.W.Write.contents c.writeln.new.self in
    subst (λ z. OnOk c.writeln.result (Appends old new (codes "bytes: " ++ z))) (sym (append_assoc (span_text least n) behind (10 ∷ [])))
    (rw c.number_of-least.ensures.number at c.writeln.ensures.bytes)
