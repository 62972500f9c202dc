-- What a contract sees of the flavor that writes to a writer.
use Rattle.std.specs.Prelude.{ℕ, List, Option, refl}
use Rattle.std.specs.Coded.{Coded, code_by, coded×, coded_list, coded_ℕ}
use Rattle.std.specs.Io.KnownBytes.{append_known}

-- The writer, and the bytes that are held until they are written to it.
pub record Sending (W : Type 0) : Type 0 where
  pub writer : W
  pub held : List ℕ

-- It is stored as the pair of its fields.
abbrev pub sending_code : {W : Type 0} → Coded W → Coded (Sending W)
sending_code {W} code =
    code_by (W × List ℕ) (coded× code (coded_list coded_ℕ)) (λ s. (s.writer, s.held)) (λ p. record { writer = p.0; held = p.1 }) (λ _. refl)

-- The bytes that the writer says it has, if it does, followed by those held.
abbrev pub all_known : {W : Type 0} → (W → Option (List ℕ)) → Sending W → Option (List ℕ)
all_known contents s = append_known (contents s.writer) s.held
