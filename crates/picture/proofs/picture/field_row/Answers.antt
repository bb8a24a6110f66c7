-- `picture::picture::field_row`: four tables, one after the other. Assumes nothing.
use Rattle.std.proofs.Common.{◌++◌}
use Rattle.rows.proofs.Passing.{handed, passed}
use Rattle.picture.specs.Picture.{size_checks, precision_checks, mode_checks, level_checks}
use Rattle.picture.proofs.picture.field_row.Goals as goal

pub returns-in_err-size_row : goal.returns-in_err-size_row
returns-in_err-size_row c =
    let a = c.args in
    let later = precision_checks a.p a.h ++ (mode_checks a.p a.h ++ level_checks a.p a.h) in
    handed (size_checks a.n a.p a.h) later c.size_row.ensures c.branch-size_row.ensures c.in_err-size_row.is c.from_residual.ensures.1

pub returns-in_err-precision_row : goal.returns-in_err-precision_row
returns-in_err-precision_row c =
    let a = c.args in
    let modes = mode_checks a.p a.h ++ level_checks a.p a.h in
    passed (size_checks a.n a.p a.h) (precision_checks a.p a.h ++ modes) c.size_row.ensures c.branch-size_row.ensures c.in_ok-size_row.is
    (handed (precision_checks a.p a.h) modes c.precision_row.ensures c.branch-precision_row.ensures c.in_err-precision_row.is c.from_residual-in_err-precision_row.ensures.1)

pub returns-in_err-mode_row : goal.returns-in_err-mode_row
returns-in_err-mode_row c =
    let a = c.args in
    let modes = mode_checks a.p a.h ++ level_checks a.p a.h in
    passed (size_checks a.n a.p a.h) (precision_checks a.p a.h ++ modes) c.size_row.ensures c.branch-size_row.ensures c.in_ok-size_row.is
    (passed (precision_checks a.p a.h) modes c.precision_row.ensures c.branch-precision_row.ensures c.in_ok-precision_row.is
    (handed (mode_checks a.p a.h) (level_checks a.p a.h) c.mode_row.ensures c.branch-mode_row.ensures c.in_err-mode_row.is c.from_residual-in_err-mode_row.ensures.1))
