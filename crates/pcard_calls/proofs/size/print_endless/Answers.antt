-- The number, the parts and the end of the line are printed one after the other.
use Rattle.std.proofs.Common.{[], ◌∷◌, ◌++◌, map, sym, subst, ◌∙◌, append_assoc}
use Rattle.std.specs.Prelude.{codes}
use Rattle.std.specs.Fmt.{decimal}
use Rattle.std.specs.Io.KnownBytes.{Appends}
use Rattle.std.proofs.KnownBytes.{Appends-trans}
use Rattle.postcard_schema.specs.Paths.{plain_path}
use Rattle.pcard_calls.specs.Size.{endless_text, parts_text}
use Rattle.pcard_calls.proofs.SizeLemmas.{on_ok_as}
use Rattle.pcard_calls.proofs.size.print_endless.Goals as goal

pub returns : goal.returns
returns g c =
    let old = g.W.Write.contents c.args.output.now in
    let new = g.W.Write.contents c.write_all.new.self in
    let number = decimal c.number_of-least.result in
    let paths = map plain_path c.args.parts.now in
    let between = codes ", no greatest number" in
    on_ok_as c.write_all.result _ _ (λ last.
    subst (λ n. Appends old new (endless_text n paths ++ 10 ∷ [])) c.number_of-least.ensures.number
    (subst (λ z. Appends old new (codes "bytes: at least " ++ z))
    (append_assoc number between (parts_text paths ++ 10 ∷ []) ∙ sym (append_assoc number (between ++ parts_text paths) (10 ∷ [])))
    (Appends-trans _ _ _ _ _ c.in_ok-write.ensures.bytes (Appends-trans _ _ _ _ _ c.in_ok-print_parts.ensures last)))) c.write_all.ensures.bytes
