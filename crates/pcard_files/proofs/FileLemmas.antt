-- Which file the bytes are that were read, and what is wrong with it. The longest file has 1,048,576 bytes. One more is asked for, so a
-- longer file shows.
use Rattle.std.proofs.Common.{◌≡◌, ℕ, ◌<◌, ◌≤◌, Option, Some, None, Result, IfOk, IfErr, List, length, take, take_all, sym, ap, subst, ◌∙◌, arith}
use Rattle.std.proofs.lemmas.List.{length-take}
use Rattle.std.proofs.lemmas.Result.{IfOk-weaker, IfErr-weaker}
use Rattle.postcard_source.specs.Files.{HasProblemOf, IsWithin}
use Rattle.postcard_source.specs.declared.error.FileError.{FileError}
use Rattle.postcard_schema.specs.Views.{view}
use Rattle.postcard_schema.specs.declared.schema.Schema.{Schema}
use Rattle.postcard_schema_text.specs.{IsTextRefusal}
use Rattle.postcard_schema_text.specs.declared.error.TextError.{TextError}
use Rattle.pcard_files.specs.SchemaFile.{Describes}
use Rattle.pcard_files.specs.TypeName.{IsWrong, IsUnwritable, IsTextIn, HasExpression, IsFaultIn, IsFaultOf, IsFaultBy, IsTextFault}
use Rattle.pcard_files.specs.declared.fault.TypeFault.{TypeFault}
use Rattle.pcard_files.specs.declared.fault.TypeFault.TheVariants.{Unreadable, TooLong, Wrong, NoExpression, OutOfMemory}

-- The bytes are the first 1,048,577 of a file, or all of it.
abbrev pub IsFront : (List ℕ → Type 0) → List ℕ → Type 0
IsFront gives bytes = (content : List ℕ) × gives content × (bytes ≡ take 1048577 content)

-- If they are at most 1,048,576, they are the file.
pub whole_file : (gives : List ℕ → Type 0) (bytes same : List ℕ) → IsFront gives bytes → same ≡ bytes → length bytes ≤ 1048576 → gives same
whole_file gives bytes same (content, given, is) equal few =
    let n = ap length is in
    let fits : length content ≤ 1048577 = omega (arith, n, few, length-take 1048577 content) in
    subst gives (sym (equal ∙ is ∙ take_all 1048577 content fits)) given

-- If they are more than 1,048,576, the fault `TooLong` is one of the file.
pub long_file : (gives : List ℕ → List ℕ → Type 0) (lacks : List ℕ → Type 0) (file : List ℕ) (name : Option (List ℕ)) (bytes : List ℕ) (fault : TypeFault)
    → IsFront (gives file) bytes → fault ≡ TooLong → 1048576 < length bytes → IsFaultOf gives lacks file name fault
long_file gives lacks file name bytes fault (content, given, is) equal more =
    let n = ap length is in
    subst (IsFaultOf gives lacks file name) (sym equal) (content, given, omega (arith, n, more, length-take 1048577 content))

-- If an error is one of the bytes of a file, the fault of the error is one of these bytes.
pub wrong_in : (name content text : List ℕ) (error : FileError) (fault : TypeFault)
    → text ≡ content → HasProblemOf text name error.problem → IsWithin text error → IsFaultBy error fault → IsFaultIn content (Some name) fault
wrong_in name content text error (Wrong wrong) same has within (is, other) =
    let moved : IsWrong content name error = (subst (λ t. HasProblemOf t name error.problem) same has, subst (λ t. IsWithin t error) same within, other) in
    subst (IsWrong content name) (sym is) moved
wrong_in name content text error OutOfMemory same has within by = tt
wrong_in name content text error fault same has within by = absurd by

-- If a schema that the file describes has no expression by an error, the fault of the error is one of its bytes.
pub unwritable_in : (content : List ℕ) (schema : Schema) (error : TextError) (fault : TypeFault)
    → Describes content schema → IsTextRefusal error (view schema) → IsTextFault error fault → IsFaultIn content None fault
unwritable_in content schema error (NoExpression refused) described refuses (is, other) =
    subst (IsUnwritable content) (sym is) (schema, described, refuses, other)
unwritable_in content schema error OutOfMemory described refuses by = tt
unwritable_in content schema error fault described refuses by = absurd by

-- A fault of the bytes that a file may have is one of the file.
pub fault_of_file : (gives : List ℕ → List ℕ → Type 0) (lacks : List ℕ → Type 0) (file : List ℕ) (name : Option (List ℕ)) (content : List ℕ) (fault : TypeFault)
    → gives file content → IsFaultIn content name fault → IsFaultOf gives lacks file name fault
fault_of_file gives lacks file (Some name) content Unreadable given by = absurd by
fault_of_file gives lacks file None content Unreadable given by = absurd by
fault_of_file gives lacks file (Some name) content TooLong given by = absurd by
fault_of_file gives lacks file None content TooLong given by = absurd by
fault_of_file gives lacks file name content OutOfMemory given by = tt
fault_of_file gives lacks file name content fault given by = (content, given, by)

-- What is claimed of the bytes of a file is claimed of the file, whose bytes may be these.
pub found_of_file : {A : Type 0} (see : A → List ℕ) (gives : List ℕ → List ℕ → Type 0) (file : List ℕ) (name same : Option (List ℕ)) (content bytes : List ℕ)
    (r : Result A TypeFault) → gives file content → bytes ≡ content → name ≡ same
    → IfOk r (λ a. IsTextIn bytes same (see a)) → IfOk r (λ a. HasExpression gives file name (see a))
found_of_file see gives file name same content bytes r given are equal found =
    IfOk-weaker r _ _
    (λ a h. (content, given, subst (λ b. IsTextIn b name (see a)) are (subst (λ n. IsTextIn bytes n (see a)) (sym equal) h)))
    found

pub refused_of_file : {A : Type 0} (gives : List ℕ → List ℕ → Type 0) (lacks : List ℕ → Type 0) (file : List ℕ) (name same : Option (List ℕ)) (content bytes : List ℕ)
    (r : Result A TypeFault) → gives file content → bytes ≡ content → name ≡ same
    → IfErr r (IsFaultIn bytes same) → IfErr r (IsFaultOf gives lacks file name)
refused_of_file gives lacks file name same content bytes r given are equal refused =
    IfErr-weaker r _ _
    (λ fault h.
    let named = subst (λ n. IsFaultIn bytes n fault) (sym equal) h in
    fault_of_file gives lacks file name content fault given (subst (λ b. IsFaultIn b name fault) are named))
    refused
