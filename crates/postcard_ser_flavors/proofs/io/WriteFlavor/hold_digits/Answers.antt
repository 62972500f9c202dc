-- The digits fit in the free bytes, and follow what was held.
use Rattle.std.proofs.Common.{ℕ, ◌-◌, drop, refl, arith, length-drop, length-take, ◌∙◌}
use Rattle.postcard_wire.proofs.Writing.{few_64}
use Rattle.postcard_ser_flavors.proofs.InPlace.{written_after}
use Rattle.postcard_ser_flavors.proofs.io.WriteFlavor.hold_digits.Goals as goal

pub write_u64-requires : goal.write_u64-requires
write_u64-requires g c =
    let count : ℕ = c.self.inside.count in
    let block = c.self.inside.block in
    let room = rw (← c.self.view_is) at c.requires in
    omega (arith, room, few_64 c.args.n (omega arith), length-take count block, length-take (64 - count) (drop count block), length-drop count block)

pub returns-clause-more_held : goal.returns-clause-more_held
returns-clause-more_held g c =
    written_after c.self.inside.count c.write_u64.result _ c.self.inside.block c.write_u64.new.out _ (omega arith) c.write_u64.ensures.within c.write_u64.ensures.digits
    ∙ (rw (← c.self.view_is) refl)
