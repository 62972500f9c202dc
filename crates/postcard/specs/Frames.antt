-- What the bytes that a framing call writes decode to.
use Rattle.std.specs.Prelude.{◌≡◌, ℕ, List, [], ◌∷◌, ◌++◌, Result, OnOk, IfOk, IfErr}
use Rattle.postcard_cobs.specs.Groups.{Groups, NoZero, made}
use Rattle.postcard_shape.specs.Shape.{Shape}
use Rattle.postcard_ser.specs.Writing.{IsErrorOf, encoding}
use Rattle.postcard_wire.specs.declared.error.Error.{Error}

-- The bytes m decode to the bytes d. They are a frame without a zero, and then the one zero that ends it. The groups of the frame have just
-- the data d (Cheshire and Baker, 1999).
pub record DecodesTo (m d : List ℕ) : Type 0 where
  pub frame : List ℕ
  pub ends : m ≡ frame ++ 0 ∷ []
  pub no_zero : NoZero frame
  pub groups : Groups frame d

-- A call that encodes the value v as a frame and allocates returned r. `bytes` gives the frame in r. It is the made frame of the encoding,
-- and decodes to it. After a success the value fits.
pub record EncodesFrame {V R : Type 0} (s : Shape V) (v : V) (bytes : R → List ℕ) (r : Result R Error) : Type 0 where
  pub gives : IfOk r (λ x. bytes x ≡ made (encoding s v))
  pub decodes : IfOk r (λ x. DecodesTo (bytes x) (encoding s v))
  pub named_error : IfErr r (IsErrorOf s v)
  pub fits : OnOk r (s.fits v)
