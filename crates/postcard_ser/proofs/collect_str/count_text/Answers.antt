-- The count starts at 0.
use Rattle.std.proofs.Common.{refl}
use Rattle.postcard_ser.proofs.Printed.{text_counted}
use Rattle.postcard_ser.proofs.collect_str.count_text.Goals as goal

pub returns : goal.returns
returns g c = text_counted (λ w. w.count) _ (g.T.Display.output c.args.value.now) c.write.new.self refl c.in_ok-write.ensures.writes
