-- The flavor took the encoding, and at its end the checksum.
use Rattle.std.proofs.Common.{◌++◌, sym, subst}
use Rattle.postcard_wire.specs.Spelling.{canonical}
use Rattle.postcard_ser.proofs.PartByPart.{wrote_closes}
use Rattle.crc.specs.Digest.{Took}
use Rattle.crc.specs.Checked.{low_bytes}
use Rattle.postcard_crc.specs.Writing.{HasRoom}
use Rattle.postcard_crc.proofs.ser.serialize_with_checksum.Goals as goal

pub returns-in-Ok-clause-gives : goal.returns-in-Ok-clause-gives
returns-in-Ok-clause-gives g c =
    let k = g.W.Width.size in
    let F = g.S.Flavor in
    let enc = canonical (g.T.Shaped.shape.tree c.args.value.now) in
    let s = c.new.result in
    let t = c.serialize.new.serializer.output in
    let wrote = c.in_ok-serialize.ensures.wrote in
    let ends = c.in-Ok.ensures.gives in
    record {
      crc = ends.crc;
      is_crc = λ a m h. ends.is_crc a (m ++ enc) (wrote.appends.1 a m (subst (λ d. Took d a m) (sym c.new.ensures.digest) h));
      ended = record {
        last = ends.last;
        appended = subst (λ z. F.appended z (enc ++ low_bytes k ends.crc) ends.last) c.new.ensures.flavor
            (F.lawful.appended_join s.flavor t.flavor ends.last enc (low_bytes k ends.crc) wrote.appends.0 ends.appended);
        reached = subst (λ z. F.reaches z ends.last) c.new.ensures.flavor (F.lawful.reaches_join s.flavor t.flavor ends.last wrote.leaves ends.reached);
        ended = ends.ended;
      };
    }

pub returns-in-Err-clause-has_room : goal.returns-in-Err-clause-has_room
returns-in-Err-clause-has_room g c willing room =
    let enc = canonical (g.T.Shaped.shape.tree c.args.value.now) in
    c.in-Err.ensures.closes (wrote_closes enc (subst (λ z. HasRoom g.W.Width.size g.S.Flavor.room z enc) (sym c.new.ensures.flavor) room) c.in_ok-serialize.ensures.wrote)

pub returns-in-Err-clause-own_error : goal.returns-in-Err-clause-own_error
returns-in-Err-clause-own_error g c room =
    let closed = c.in-Err.ensures.closes (wrote_closes _ (subst (λ z. HasRoom g.W.Width.size g.S.Flavor.room z (canonical (g.T.Shaped.shape.tree c.args.value.now))) (sym c.new.ensures.flavor) room) c.in_ok-serialize.ensures.wrote) in
    absurd (cc)
