-- The loop's invariant: what is left of the part leads to the same end. Assumes nothing.
use mathlib.Core.Path.{◌≡◌}
use lib.ListN.{drop}
use Rattle.maskwalk_text.specs.Scan.{fed}
use Rattle.maskwalk_text.proofs.Reader.feed.Given as goal

abbrev pub invariant-loop-b : goal.invariant-loop-b
invariant-loop-b l = fed l.part l.initial.self.scan l.initial.self.held ≡ fed (drop l.b-index l.part) l.self.scan l.self.held
