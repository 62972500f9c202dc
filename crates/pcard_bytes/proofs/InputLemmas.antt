-- When each failure of reading the argument HEX comes.
use Rattle.std.proofs.Common.{◌≡◌, ◌⊎◌, inl, inr, sym, subst, ℕ, List, Option, Result, Ok, Err}
use Rattle.std.specs.Prelude.{IfErr}
use Rattle.pcard_bytes.specs.Hexadecimal.{IsWrongHex}
use Rattle.pcard_bytes.specs.Input.{HexFails, IsDigitText}
use Rattle.pcard_bytes.specs.declared.input.InputError.{InputError}
use Rattle.pcard_bytes.specs.declared.input.InputError.TheVariants.{BadHex, OutOfMemory}

-- If reading the digits of HEX fails by a wrong digit or for want of memory, `HexFails` holds of that failure.
pub digits_fail : {T : Type 0} (reads : ℕ) (steady : Type 0) (hex digits : List ℕ) (known left : Option (List ℕ)) (r : Result T InputError) → IsDigitText hex known left digits
    → IfErr r (λ e. ((n : ℕ) × (e ≡ BadHex n) × IsWrongHex digits n) ⊎ (e ≡ OutOfMemory)) → IfErr r (HexFails reads steady hex known left)
digits_fail reads steady hex digits known left (Ok bytes) text h = tt
digits_fail reads steady hex digits known left (Err e) text (inl (n, is, wrong)) = subst (HexFails reads steady hex known left) (sym is) (digits, text, wrong)
digits_fail reads steady hex digits known left (Err e) text (inr is) = subst (HexFails reads steady hex known left) (sym is) tt
