-- What the bytes of the file give is what the file gives.
use Rattle.std.proofs.Common.{ap, string_bytes, Global}
use Rattle.pcard_files.specs.TypeName.{bytes_of}
use Rattle.pcard_files.proofs.FileLemmas.{found_of_file, refused_of_file}
use Rattle.pcard_files.proofs.type_name.TypeName.expression.Goals as goal

pub returns-in-Some-clause-refused : goal.returns-in-Some-clause-refused
returns-in-Some-clause-refused g c =
    refused_of_file (g.F.Files.gives c.args.files.now) (g.F.Files.lacks c.args.files.now) c.args.self.file.now _ _ _ _ c.declared.result
    c.in_ok-bytes.ensures.given c.as_slice.ensures.value (ap bytes_of c.in-Some.is) c.declared.ensures.refused

pub returns-clause-found : goal.returns-clause-found
returns-clause-found g c =
    found_of_file (string_bytes {Z = Global}) (g.F.Files.gives c.args.files.now) c.args.self.file.now _ _ _ _ c.described.result
    c.in_ok-bytes.ensures.given c.as_slice-in-None.ensures.value (ap bytes_of c.in-None.is) c.described.ensures.found

pub returns-clause-refused : goal.returns-clause-refused
returns-clause-refused g c =
    refused_of_file (g.F.Files.gives c.args.files.now) (g.F.Files.lacks c.args.files.now) c.args.self.file.now _ _ _ _ c.described.result
    c.in_ok-bytes.ensures.given c.as_slice-in-None.ensures.value (ap bytes_of c.in-None.is) c.described.ensures.refused
