-- A path is the name of the grant on it alone.
use Rattle.std.proofs.Common.{◌≡◌, Ok}
use Rattle.vr_base.specs.Names.{grant_of}
use Rattle.vr_rights.proofs.PathLemmas.{path_grant}
use Rattle.vr_rights.proofs.collecting.PathNamed.copy_name.Goals as goal

pub returns-in-Ok : goal.returns-in-Ok
returns-in-Ok c =
    let path = path_grant c.args.self.now c.as_slice.ensures.is_path in
    let parsed : grant_of c.args.self.now ≡ Ok c.in-Ok.name = rw c.as_slice.ensures.bytes at c.in-Ok.ensures in
    let name = c.new.ensures in
    cc
