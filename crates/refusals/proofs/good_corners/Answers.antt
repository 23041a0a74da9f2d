-- `refusals::good_corners` meets its contract. Assumes nothing.
use Rattle.refusals.proofs.good_corners.Goals as goal

pub returns-in-Pointed : goal.returns-in-Pointed
returns-in-Pointed c = rw c.in-Pointed.is c.good_number.ensures
