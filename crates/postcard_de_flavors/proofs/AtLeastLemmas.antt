-- Taking bytes from a reader that may know its bytes.
use Rattle.std.specs.Prelude.{ℕ, ◌+◌, List, length, Option, None, Some}
use Rattle.std.proofs.Common.{ap, arith, length-append}
use Rattle.std.specs.Io.KnownBytes.{Consumes}
use Rattle.postcard_de_flavors.specs.Reader.{AtLeast}

-- If the reader had at least length p + n bytes left and p was taken, it has at least n bytes left.
pub at_least_after : (old new : Option (List ℕ)) (p : List ℕ) (n : ℕ) → Consumes old new p → AtLeast old (length p + n) → AtLeast new n
at_least_after None new p n took enough = absurd enough
at_least_after (Some bytes) None p n took enough = absurd took
at_least_after (Some bytes) (Some rest) p n took enough = let e = ap length took in omega (arith, e, enough, length-append p rest)
