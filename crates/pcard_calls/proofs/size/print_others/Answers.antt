-- One more path adds a comma (44), a blank (32) and its text.
use Rattle.std.proofs.Common.{◌≡◌, ℕ, ◌+◌, ◌<◌, List, [], ◌∷◌, ◌++◌, length, take, map, get_or, sym, ap, ◌∙◌, arith}
use Rattle.std.proofs.KnownBytes.{Appends-trans}
use Rattle.std.proofs.lemmas.Grind.{flat_map-append}
use Rattle.std.proofs.lemmas.List.{append-nil, take_more, map-append}
use Rattle.postcard_schema.specs.Paths.{plain_path, plain_text}
use Rattle.postcard_schema.specs.declared.path.Path.{Path}
use Rattle.pcard_calls.specs.Size.{others_text}
use Rattle.pcard_calls.proofs.size.print_others.Goals as goal

one_more : (xs : List Path) (k : ℕ) (x : Path) → k < length xs → x ≡ get_or xs k x
    → others_text (map plain_path (take (k + 1) xs)) ≡ others_text (map plain_path (take k xs)) ++ (44 ∷ 32 ∷ plain_text (plain_path x))
one_more xs k x low is =
    ap (λ ys. others_text (map plain_path ys)) (take_more xs k x low ∙ ap (λ y. take k xs ++ y ∷ []) (sym is))
    ∙ ap others_text (map-append plain_path (take k xs) (x ∷ []))
    ∙ flat_map-append (λ path. 44 ∷ 32 ∷ plain_text path) (map plain_path (take k xs)) (plain_path x ∷ [])
    ∙ ap (λ ys. others_text (map plain_path (take k xs)) ++ ys) (append-nil (44 ∷ 32 ∷ plain_text (plain_path x)))

pub loop-part-preserved : goal.loop-part-preserved
loop-part-preserved g c =
    rw (one_more c.args.parts.now c.loop-part.part-index c.part-item.result (omega arith) c.part-item.is)
    (Appends-trans _ _ _ _ _ c.loop-part.invariant c.in_ok-write.ensures.bytes)
