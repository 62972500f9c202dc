-- A `&` to a `Memory` keeps the bytes where its readers reach them. Assumes `Logic`.
use denote.Param.Shared.{copy_shared}
use denote.Struct.Field.{RawPtr-field}
use denote.Struct.Laws.{RawPtr-copy}
use denote.Struct.Lending.{of_Lends}
use Rattle.postcard_memory.specs.contracts.memory.Memory as C
use Rattle.postcard_memory.proofs.memory.Memory.TheLaw.Statement.{statement}
use Rattle.postcard_memory.proofs.Sharing.{bytes_laws, Lends-readable}

pub shares : statement
shares = of_Lends C.struct C.the_codes C.the_heap C.the_lent (λ d p. bytes_laws d.time d.start d.loan d.items)
    (copy_shared RawPtr-field RawPtr-copy, tt) (λ M 𝓤 𝓛 d p. Lends-readable 𝓛 d.time C.the_row.lives d.loan d.items d.start)
