use Rattle.std.proofs.lemmas.Result.{IfOk-weaker, IfErr-weaker}
use Rattle.pcard_files.specs.TypeName.{bytes_of}
use Rattle.pcard_files.proofs.FileLemmas.{whole_file, long_file}
use Rattle.pcard_files.proofs.type_name.TypeName.bytes.Goals as goal

pub returns-in-Ok-clause-given : goal.returns-in-Ok-clause-given
returns-in-Ok-clause-given g c =
    IfOk-weaker c.checked.result _ _ (λ same h. whole_file (g.F.Files.gives c.args.files.now c.args.self.file.now) c.in-Ok.bytes.items same.items c.in-Ok.ensures.given h.0 h.1)
    c.checked.ensures.same

pub returns-in-Ok-clause-refused : goal.returns-in-Ok-clause-refused
returns-in-Ok-clause-refused g c =
    IfErr-weaker c.checked.result _ _
    (λ fault h. long_file (g.F.Files.gives c.args.files.now) (g.F.Files.lacks c.args.files.now) c.args.self.file.now (bytes_of c.args.self.name) c.in-Ok.bytes.items fault c.in-Ok.ensures.given h.0 h.1)
    c.checked.ensures.long
