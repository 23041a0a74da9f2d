-- `compare::compare` meets its contract. Assumes nothing.
use Rattle.std.proofs.lemmas.Result.{err_from_is_err_and}
use Rattle.compare.proofs.Answers.{few, even_passed, even_failed, few_passed, few_failed, ragged-first, many-first, ragged-second, many-second, both-good}
use Rattle.compare.proofs.compare.Goals as goal

pub returns-in_err-check_even : goal.returns-in_err-check_even
returns-in_err-check_even c =
    let p = err_from_is_err_and c.from_residual.result c.from_residual.ensures.1 in
    let q = even_failed _ c.in_err-check_even.ensures in
    rw (p.1, p.2, q.1) (ragged-first _ _ _ _ q.0)

pub returns-in_err-check_few : goal.returns-in_err-check_few
returns-in_err-check_few c =
    let p = err_from_is_err_and c.from_residual-in_err-check_few.result c.from_residual-in_err-check_few.ensures.1 in
    let q = few_failed _ c.in_err-check_few.ensures in
    rw (p.1, p.2, q.1) (many-first _ _ _ _ (even_passed _ c.in_ok-check_even.ensures) q.0)

pub returns-in_err-check_even-2 : goal.returns-in_err-check_even-2
returns-in_err-check_even-2 c =
    let p = err_from_is_err_and c.from_residual-in_err-check_even-2.result c.from_residual-in_err-check_even-2.ensures.1 in
    let q = even_failed _ c.in_err-check_even-2.ensures in
    rw (p.1, p.2, q.1) (ragged-second _ _ _ _ (even_passed _ c.in_ok-check_even.ensures) (few_passed _ c.in_ok-check_few.ensures) q.0)

pub returns-in_err-check_few-2 : goal.returns-in_err-check_few-2
returns-in_err-check_few-2 c =
    let p = err_from_is_err_and c.from_residual-in_err-check_few-2.result c.from_residual-in_err-check_few-2.ensures.1 in
    let q = few_failed _ c.in_err-check_few-2.ensures in
    rw (p.1, p.2, q.1)
    (many-second _ _ _ _ (even_passed _ c.in_ok-check_even.ensures) (few_passed _ c.in_ok-check_few.ensures) (even_passed _ c.in_ok-check_even-2.ensures) q.0)

pub list-requires : goal.list-requires
list-requires c = (few _ (few_passed _ c.in_ok-check_few.ensures), few _ (few_passed _ c.in_ok-check_few-2.ensures))

pub returns : goal.returns
returns c =
    both-good _ _ _ _ (even_passed _ c.in_ok-check_even.ensures) (few_passed _ c.in_ok-check_few.ensures) (even_passed _ c.in_ok-check_even-2.ensures)
    (few_passed _ c.in_ok-check_few-2.ensures) c.list.ensures
