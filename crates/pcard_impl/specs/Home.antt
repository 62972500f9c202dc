-- The places of files in a repository.
use Rattle.std.specs.Prelude.{◌≡◌, ◌⊎◌, ℕ, ◌==◌, List, [], ◌∷◌, ◌++◌, codes}
use Rattle.std.specs.Str.{NoCharPasses}

-- The text is empty, or ends with `/` (47).
abbrev pub AreFolders : List ℕ → Type 0
AreFolders front = (front ≡ []) ⊎ ((names : List ℕ) × (front ≡ names ++ 47 ∷ []))

-- The path is that of the file MODULE.rt in the folder `src` of a crate, whose name has no `/`.
abbrev pub IsHome : List ℕ → List ℕ → List ℕ → Type 0
IsHome path library module_path = (front : List ℕ) × AreFolders front
    × (path ≡ front ++ (library ++ (codes "/src/" ++ (module_path ++ codes ".rt")))) × NoCharPasses (λ d. d == 47) library
