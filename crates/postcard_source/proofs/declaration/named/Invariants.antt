-- None of the declarations so far has the name.
use Rattle.std.proofs.Common.{take}
use Rattle.std.specs.List.{All}
use Rattle.postcard_source.specs.Tokens.{Says}
use Rattle.postcard_source.proofs.declaration.named.Given as goal

abbrev pub invariant-loop-declaration : goal.invariant-loop-declaration
invariant-loop-declaration l = All (λ d. Says l.name d.name → ⊥) (take l.declaration-index l.known)
