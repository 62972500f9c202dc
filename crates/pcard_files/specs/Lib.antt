pub mod Fault
pub mod SchemaFile
pub mod TypeName
pub mod Written
pub mod Operands
pub mod Call
pub mod Input
-- The words that clauses of this crate cite, under one path.
pub use Rattle.pcard_call.specs.declared.verb.Verb.{Verb}
pub use Rattle.pcard_call.specs.{IsCall, given_of}
pub use Rattle.postcard_cobs.specs.Groups.{EndsFrame}
pub use Rattle.postcard_schema.specs.Views.{view}
pub use Rattle.postcard_schema_text.specs.Grammar.{IsExpression}
pub use Rattle.postcard_schema_text.specs.{IsTextRefusal}
pub use Rattle.postcard_schema_message.specs.declared.error.Problem.TheVariants.{OutOfMemory as NodesMemory}
pub use Rattle.pcard_files.specs.Call.{AnswersNamed, NamesType}
pub use Rattle.pcard_files.specs.Fault.{Tells, fault_status, fault_text, schema_fault_text}
pub use Rattle.pcard_files.specs.Input.{AnswersCall, MayHave, open_fault}
pub use Rattle.pcard_files.specs.Operands.{AreNoCall, IsOnlyCall, IsTypeAt, NamesInput, reads_bytes}
pub use Rattle.pcard_files.specs.Operands.{takes_type}
pub use Rattle.pcard_files.specs.SchemaFile.{Describes, DescribesNone, IsMessageOf, IsNoMessage}
pub use Rattle.pcard_files.specs.SchemaFile.{IsUnframed, LooksLikeText}
pub use Rattle.pcard_files.specs.TypeName.{HasExpression, IsFaultBy, IsFaultIn, IsFaultOf, IsNameWord}
pub use Rattle.pcard_files.specs.TypeName.{IsTextFault, IsTextIn, bytes_of}
pub use Rattle.pcard_files.specs.Written.{is_word}
pub use Rattle.pcard_files.specs.declared.fault.SchemaFault.TheVariants.{Nodes}
pub use Rattle.pcard_files.specs.declared.fault.TypeFault.TheVariants.{OutOfMemory as NoMemory, TooLong}
pub use Rattle.pcard_files.specs.declared.files.ReadError.TheVariants.{Failed}
