-- The text before the NUL at the end of a text of C.
use Rattle.std.proofs.Common.{◌≡◌, ℕ, List, [], ◌∷◌, ◌++◌, ap, ◌∙◌, arith}
use Rattle.std.proofs.lemmas.Grind.{common_steps}
use Rattle.std.specs.CStr.{c_string_with_nul, c_string_bytes}
use Rattle.std.specs.Ffi.{without_last}
use Rattle.std.specs.declared.ffi.c_string.CString.{CString}

-- All but the last of some bytes and one more are the bytes.
without_last_of : (xs : List ℕ) (b : ℕ) → without_last (xs ++ b ∷ []) ≡ xs
without_last_of xs b = grind (arith, common_steps)

-- If a text with its NUL is some bytes and a NUL, the text is those bytes.
pub text_before_nul : {A : Type 0} (s : CString A) (xs : List ℕ) → c_string_with_nul s ≡ xs ++ 0 ∷ [] → c_string_bytes s ≡ xs
text_before_nul s xs e = ap without_last e ∙ without_last_of xs 0
