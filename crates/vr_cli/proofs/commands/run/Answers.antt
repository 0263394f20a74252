use Rattle.vr_cli.proofs.commands.run.Goals as goal

pub returns-in-Make : goal.returns-in-Make
returns-in-Make g c = rw c.in-Make.is (c.make.ensures (g.F.Folder.files c.args.folder.now) (g.F.Folder.counts c.args.folder.now))
