-- The two kinds of value are not one. Assumes nothing.
use mathlib.Core.Path.{◌≡◌, ap}
use mathlib.Core.Bool.{Bool, true, false}
use Rattle.whole.specs.declared.Kind.{Kind}
use Rattle.whole.specs.declared.Kind.TheVariants.{Samples, Numbers}
use Rattle.whole.proofs.Linear.{flags_differ}

abbrev samples : Kind → Bool
samples Samples = true
samples Numbers = false

pub kinds_differ : Samples ≡ Numbers → ⊥
kinds_differ e = flags_differ (ap samples e)
