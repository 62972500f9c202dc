-- The encoding of an array of bytes is those bytes.
use Rattle.postcard_shape.specs.Base256.{little, big}
use Rattle.postcard_fixint.proofs.Spelled.{bytes_of_bytes, encoded_length}
use Rattle.postcard_fixint.proofs.laws.encoded.Goals as goal

pub returns : goal.returns
returns g c =
    let width = g.T.FixInt.width in
    record {
      lowest_first = λ v. bytes_of_bytes (little.spell width.size (width.modulo v));
      highest_first = λ v. bytes_of_bytes (big.spell width.size (width.modulo v));
      little_len = λ v. encoded_length little width.size (width.modulo v);
      big_len = λ v. encoded_length big width.size (width.modulo v);
    }
