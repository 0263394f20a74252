-- What the code says of a target.
use Rattle.vr_face.specs.Resources.{Resource, FileNamed, PipelineNamed, HashOfPolicy}
use Rattle.vr_face.specs.declared.targets.Target.{Target}
use Rattle.vr_face.specs.declared.targets.Target.TheVariants.{File, Pipeline, PolicyHash}

-- the resource that a target is
abbrev pub resource_by : Target → Resource
resource_by (File name) = FileNamed name.now
resource_by (Pipeline id) = PipelineNamed id.now
resource_by PolicyHash = HashOfPolicy
