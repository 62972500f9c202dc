-- What each loop has read so far, and how the result of reading the remaining parts gives the result of reading all.
use Rattle.std.proofs.Common.{◌-◌, drop}
use Rattle.postcard_de.specs.Deserializer.{source_of}
use Rattle.postcard_value.specs.{AreRead, contents, entry_of, reads, reads_all, type_of, types_of}
use Rattle.postcard_value.proofs.Rows.{GoingRow}
use Rattle.postcard_value.proofs.read.+read.Given as goal

abbrev pub invariant-read_elements-loop : goal.invariant-read_elements-loop
invariant-read_elements-loop g l = let f = g.F.Flavor in let each = reads (type_of l.element) in
    GoingRow f.left f.able f.may_leave (source_of l.initial.d) (AreRead l.count each) l.items.items (source_of l.d) (AreRead
    (l.count - l.counter) each)

abbrev pub invariant-read_value-loop : goal.invariant-read_value-loop
invariant-read_value-loop g l = let f = g.F.Flavor in let each = reads (entry_of (type_of l.key.value) (type_of l.value.value)) in
    GoingRow f.left f.able f.may_leave (source_of l.initial.d) (AreRead l.count each) l.items.items (source_of l.d) (AreRead
    (l.count - l.counter) each)

abbrev pub invariant-read_tuple-loop-part : goal.invariant-read_tuple-loop-part
invariant-read_tuple-loop-part g l = let f = g.F.Flavor in
    GoingRow f.left f.able f.may_leave (source_of l.initial.d) (reads_all (types_of l.part-items)) l.items.items (source_of l.d)
    (reads_all (types_of (drop l.part-index l.part-items)))

abbrev pub invariant-read_struct-loop-field : goal.invariant-read_struct-loop-field
invariant-read_struct-loop-field g l = let f = g.F.Flavor in
    GoingRow f.left f.able f.may_leave (source_of l.initial.d) (reads_all (types_of (contents l.field-items))) l.items.items (source_of l.d)
    (reads_all (types_of (contents (drop l.field-index l.field-items))))
