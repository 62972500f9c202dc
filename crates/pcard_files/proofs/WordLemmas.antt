-- The bytes of the word at an index, and the status of a fault that is reported.
use Rattle.std.proofs.Common.{◌≡◌, ℕ, ◌<◌, ◌≤◌, Some, List, length, get_or, map, refl, ap, ◌∙◌, arith, inl, inr}
use Rattle.std.specs.Prelude.{slice_get, option_map, Option}
use Rattle.std.proofs.lemmas.Option.{slice_get-map, slice_get_read}
use Rattle.pcard_files.specs.Fault.{Tells}
use Rattle.pcard_files.specs.declared.fault.TypeFault.{TypeFault}
use Rattle.pcard_files.specs.declared.fault.TypeFault.TheVariants.{OutOfMemory}

-- If w is the word at index i, the bytes at index i of the mapped list are those of w.
pub word_at : {A : Type 0} (f : A → List ℕ) (ws : List A) (i : ℕ) (w : A) → i < length ws → w ≡ get_or ws i w → slice_get (map f ws) i ≡ Some (f w)
word_at f ws i w less is = slice_get-map f ws i ∙ ap (option_map f) (slice_get_read ws (length ws) i w refl less is)

-- The status of a fault is at most 3.
pub told_status : (file : List ℕ) (fault : TypeFault) (old new : Option (List ℕ)) (status : ℕ) → Tells file fault old new status → status ≤ 3
told_status file fault old new status (inl is) = omega (arith, is)
told_status file OutOfMemory old new status (inr (is, printed)) = omega (arith, is)
told_status file fault old new status (inr (is, printed)) = omega (arith, is)
