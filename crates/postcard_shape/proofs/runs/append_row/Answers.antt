use Rattle.std.proofs.Common.{◌≡◌, ◌<◌, ◌≤◌, ℕ, List, length, take, get_or, arith, sym, ap, ◌∙◌, subst}
use Rattle.std.proofs.lemmas.List.{length-take-le, get_or-take}
use Rattle.postcard_wire.proofs.Runs.{take_fewer}
use Rattle.postcard_wire.specs.Words.{AreCut, IsNarrow}
use Rattle.postcard_shape.proofs.Varints.{row_appended, bytes_cut}
use Rattle.postcard_shape.proofs.runs.append_row.Goals as goal

-- The first bytes of a block are those of the bytes.
front : (n : ℕ) (block bytes : List ℕ) → n ≤ 80 → block ≡ take 80 bytes → take n block ≡ take n bytes
front n block bytes h e = ap (λ (z : List ℕ). take n z) e ∙ take_fewer n 80 bytes h

-- A block is whole.
whole : (block bytes : List ℕ) → 80 ≤ length bytes → block ≡ take 80 bytes → length block ≡ 80
whole block bytes h e = ap (λ (z : List ℕ). length z) e ∙ length-take-le 80 bytes h

-- Bytes that are all below 128 are numbers.
ones : (w : ℕ) → IsNarrow w → (block : List ℕ) → length block ≡ 80 → ((k : ℕ) → k < 64 → get_or block k 0 < 128) →
    AreCut w (take 64 block) (take 64 block)
ones w n block l h =
    let long = length-take-le 64 block (omega (arith, l)) in
    bytes_cut w n (take 64 block) (λ k m.
    let few : k < 64 = omega (arith, m, long) in
    subst (λ (z : ℕ). z < 128) (sym (get_or-take 64 block k 0 few)) (h k few))

pub row_of_bytes-row-requires : goal.row_of_bytes-row-requires
row_of_bytes-row-requires g c = omega (arith, c.requires)

pub shared_whole_as_slice-push_row : goal.shared_whole_as_slice-push_row
shared_whole_as_slice-push_row g c = omega (arith, c.requires)

pub row_of_digits-row-requires : goal.row_of_digits-row-requires
row_of_digits-row-requires g c = omega (arith, c.requires)

pub shared_whole_as_slice-push_row-2 : goal.shared_whole_as_slice-push_row-2
shared_whole_as_slice-push_row-2 g c = omega (arith, c.requires)

pub returns-then-room-ge-ROW-clause-reads : goal.returns-then-room-ge-ROW-clause-reads
returns-then-room-ge-ROW-clause-reads g c =
    let cases = c.in-Some.ensures.cases in
    let block = c.in-Some.block.now in
    let bytes = c.args.bytes.now in
    let enough : 80 ≤ length bytes = cases.enough in
    let long = whole block bytes enough cases.same in
    let many = length-take-le 64 block (omega (arith, long)) in
    let cut = ones c.bits-bits.result c.bits-bits.ensures.narrow block long (c.ends-ends.ensures c.if-ends.true) in
    row_appended g.T.Varint.width c.bits-bits.result g.T.Varint.form (take 64 block) c.row_of_bytes-row.result
    c.args.items.now.items _ c.args.most 64 block bytes c.bits-bits.ensures.bits c.row_of_bytes-row.ensures cut
    (front 64 block bytes (omega arith) cases.same) (omega (arith, many))
    (omega (arith, many, c.if-room-ge-ROW.true, c.min-room.ensures)) c.in_ok-push_row.ensures.appended

pub returns-clause-within : goal.returns-clause-within
returns-clause-within g c =
    let cases = c.in-Some.ensures.cases in
    let enough : 80 ≤ length c.args.bytes.now = cases.enough in
    let run = c.in-Some-cut.ensures in
    (run.0, omega (arith, run.1, enough))

pub returns-clause-reads : goal.returns-clause-reads
returns-clause-reads g c =
    let cases = c.in-Some.ensures.cases in
    let block = c.in-Some.block.now in
    let run = c.in-Some-cut.run' in
    let cut = c.in-Some-cut.ensures in
    row_appended g.T.Varint.width c.bits-bits.result g.T.Varint.form run.digits c.row_of_digits-row.result
    c.args.items.now.items _ c.args.most run.len block c.args.bytes.now c.bits-bits.ensures.bits c.row_of_digits-row.ensures cut.3
    (front run.len block c.args.bytes.now (omega (arith, cut.1)) cases.same) (omega (arith, cut.2))
    (omega (arith, cut.2, c.if-room-lt-RUN.false, c.min-room.ensures)) c.in_ok-push_row-2.ensures.appended
