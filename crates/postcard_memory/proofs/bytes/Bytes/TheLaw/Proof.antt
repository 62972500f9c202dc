-- A `&` to a `Bytes` has of the bytes what the `Bytes` has. Assumes `Logic`.
use denote.Builtin.{u8}
use denote.Ref.{NamedLft}
use denote.Param.Shared.{copy_shared}
use denote.Struct.Field.{RawPtr-field, shr_ref_field}
use denote.Struct.Laws.{RawPtr-copy, field_copy}
use denote.Struct.Lending.{of_Lends}
use Rattle.std.specs.contracts.marker.PhantomData as P
use Rattle.postcard_memory.specs.contracts.bytes.Bytes as C
use Rattle.postcard_memory.proofs.bytes.Bytes.TheLaw.Statement.{statement}
use Rattle.postcard_memory.proofs.Reading.{read_laws, Lends-read}

pub shares : (a : NamedLft) → statement a
shares a = of_Lends (C.struct a) (C.the_codes (P.the_row (shr_ref_field a u8 tt).row).coded) (C.the_heap a.lft) (C.the_lent a.lft) (λ d p. read_laws a.lft d.start d.items)
    (copy_shared RawPtr-field RawPtr-copy, (copy_shared (P.the_field (shr_ref_field a u8 tt).row) (field_copy (P.the_type (shr_ref_field a u8 tt).row) tt), tt)) (λ M 𝓤 𝓛 d p. Lends-read 𝓛 a.lft (C.the_row a).lives d.items d.start)
