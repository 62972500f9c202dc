-- A row of one part becomes that part, and any other row a struct. Both have the messages of the row.
use Rattle.std.proofs.Common.{◌≡◌, length, arith}
use Rattle.postcard_compat.proofs.Flattening.{only_same, struct_same}
use Rattle.postcard_compat.proofs.flat.grouped.Goals as goal

pub returns-then-len-ne1 : goal.returns-then-len-ne1
returns-then-len-ne1 c = struct_same c.args.row

pub returns-in-Some : goal.returns-in-Some
returns-in-Some c =
    let xs = c.args.row.items in
    let one : length xs ≡ 1 = omega (arith, c.args.row.ok.0, c.len.ensures, c.if-len-ne1.false) in
    only_same xs c.pop.new.self.items c.in-Some.part one c.in-Some.ensures.items
