-- The greatest sizes of floating-point numbers: each takes the 4 or 8 bytes of its type (wire format 1.0, "f32" and "f64").
use Rattle.std.specs.Float.{Format, binary32, binary64}
use Rattle.postcard_wire.specs.Reading.{IsArray, IsByte}
use Rattle.postcard_shape.specs.Floats.{float_len}
use Rattle.postcard_max.specs.SizeLimit.{exactly}
use Rattle.postcard_max.specs.Limits.{IsLimit}
use Rattle.postcard_max.specs.Leaves.{byte_lawful}
use Rattle.postcard_max.specs.Containers.{array_lawful}
use Rattle.postcard_shape.specs.Shape.{never}
use Rattle.postcard_max.specs.Willing.{never_any}

-- The limit of a float holds: it is an array of bytes.
pub float_lawful : {V : Type 0} (f : Format) → IsLimit (exactly (float_len f)) (IsArray (float_len f) IsByte) (λ (v : V). never)
float_lawful {V} binary32 = let h = array_lawful {V = V} 4 byte_lawful in record {
  bounded = h.bounded;
  is_reached = h.is_reached;
  never_refuses = λ _. never_any;
}
float_lawful {V} binary64 = let h = array_lawful {V = V} 8 byte_lawful in record {
  bounded = h.bounded;
  is_reached = h.is_reached;
  never_refuses = λ _. never_any;
}
