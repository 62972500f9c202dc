-- What contracts see of a `Plain`: the reader in it.
use Rattle.postcard_de_flavors.specs.declared.plain.Plain.{Plain}

-- The reader that was wrapped.
abbrev pub inner_of : {R : Type 0} → Plain R → R
inner_of s = s.inner
