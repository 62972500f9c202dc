-- The text that is printed where a name stands for no type, and the exit status.
use Rattle.std.specs.Prelude.{◌≡◌, ◌⊎◌, ℕ, Option, List, [], ◌∷◌, ◌++◌, codes}
use Rattle.std.specs.Io.KnownBytes.{Appends}
use Rattle.postcard_schema_message.specs.Printed.{problem_text}
use Rattle.postcard_source.specs.Printed.{file_error_text}
use Rattle.postcard_schema_text.specs.{text_error_text}
use Rattle.pcard_files.specs.declared.fault.SchemaFault.{SchemaFault}
use Rattle.pcard_files.specs.declared.fault.SchemaFault.TheVariants.{NoNodes, MoreBytes, Nodes}
use Rattle.pcard_files.specs.declared.fault.TypeFault.{TypeFault}
use Rattle.pcard_files.specs.declared.fault.TypeFault.TheVariants.{Unreadable, TooLong, NoText, Wrong, Unnamed, NoSchema, NoFrame, NoSchemaInFrame, NoExpression, OutOfMemory}

-- The text of what is wrong with a schema message, in ASCII.
abbrev pub schema_fault_text : SchemaFault → List ℕ
schema_fault_text NoNodes = codes "no list of nodes, or not all of it"
schema_fault_text MoreBytes = codes "bytes follow it"
schema_fault_text (Nodes problem) = problem_text problem

-- The text of a fault, in ASCII.
abbrev pub fault_text : TypeFault → List ℕ
fault_text Unreadable = codes "the file can't be read"
fault_text TooLong = codes "the file has more than 1048576 bytes"
fault_text NoText = codes "the file is not UTF-8"
fault_text (Wrong error) = file_error_text error
fault_text Unnamed = codes "name the type, as in @FILE:NAME"
fault_text (NoSchema fault) = codes "no schema message: " ++ schema_fault_text fault
fault_text (NoFrame fault) = codes "no COBS frame, and no schema message: " ++ schema_fault_text fault
fault_text (NoSchemaInFrame fault) = codes "no schema message in the frame: " ++ schema_fault_text fault
fault_text (NoExpression error) = codes "no expression of the schema: " ++ text_error_text error
fault_text OutOfMemory = codes "out of memory"

-- The exit status of a fault.
abbrev pub fault_status : TypeFault → ℕ
fault_status OutOfMemory = 1
fault_status fault = 2

-- The fault is reported: the line with the name of the file and the fault is printed and the status is the fault's, or else the status
-- is 3.
abbrev pub Tells : List ℕ → TypeFault → Option (List ℕ) → Option (List ℕ) → ℕ → Type 0
Tells file fault old new status =
    (status ≡ 3) ⊎ ((status ≡ fault_status fault) × Appends old new (codes "pcard: " ++ (file ++ (codes ": " ++ (fault_text fault ++ 10 ∷ [])))))
