-- Admission by three tests.
use Rattle.std.proofs.Common.{not, ◌&&◌, T_not}
use lib.Dec.{not_T}
use Rattle.readings.specs.Computed.{has_none}
use Rattle.readings.proofs.Listing.{has_none_in, in_has_none}
use Rattle.readings.proofs.Sets.{both, left, right}
use Rattle.marks.proofs.Sets.{holds, is_true}
use Rattle.lines.specs.Theorems.{AdmissionStands}

pub admission_stands : AdmissionStands
admission_stands E D R r =
    let a = has_none r.exceptions E in
    let b = not (D r.head) in
    let c = has_none r.conditions R in (
      (λ e.
          let t = right a (b && c) (holds e) in
          record {
            exceptions = has_none_in r.exceptions E (left a (b && c) (holds e));
            head = T_not (D r.head) (left b c t);
            conditions = has_none_in r.conditions R (right b c t);
          }),
      λ h.
          is_true (a && (b && c))
          (both a (b && c) (in_has_none r.exceptions E h.exceptions) (both b c (not_T (D r.head) h.head) (in_has_none r.conditions R h.conditions))),
    )
