-- One setting tried where the one asked does not open the parcel: what functions promise each other. Assumes nothing.
use Rattle.std.specs.Prelude.{Bool, false, not, cond, ◌&&◌, List, ℕ, eqb, ltb, Option, Some, None}
use Rattle.blockplan.specs.Parcel.{genuine}
use Rattle.modes.specs.Modes.{mode_of}
use Rattle.diagnosing.specs.declared.Setting.{Setting}
use Rattle.diagnosing.specs.Diagnosing.{unlike}

-- whether two settings are the same
unfoldable pub is_same : Setting → Setting → Bool
is_same a s = not (unlike a.old s.old) && (eqb a.mode s.mode && eqb a.rounds s.rounds)

-- whether the parcel opens under a setting, judged over a start; the setting asked, which does not open it, is not judged
unfoldable pub tries : Setting → Setting → List ℕ → List ℕ → List ℕ → Bool
tries asked s start header parcel = cond (is_same asked s) false (genuine (mode_of s.mode s.rounds start) header parcel)

-- the number of a setting of the sixteen; none where it is past the last
unfoldable pub within : ℕ → Option ℕ
within n = cond (ltb n 16) (Some n) None
