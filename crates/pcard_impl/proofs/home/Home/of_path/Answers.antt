use Rattle.pcard_impl.proofs.Splits.{home_within, home_alone}
use Rattle.pcard_impl.proofs.home.Home.of_path.Goals as goal

pub returns-in-Some-rsplit_once : goal.returns-in-Some-rsplit_once
returns-in-Some-rsplit_once c =
    home_within c.args.path.now _ _ _ _ _ _ c.rsplit_once.ensures.cases c.in-Some.is c.strip_suffix.ensures.cases c.in-Some-strip_suffix.is
    c.rsplit_once-2.ensures.cases c.in-Some-rsplit_once.is

pub returns-in-None : goal.returns-in-None
returns-in-None c =
    home_alone c.args.path.now _ _ _ _ _ c.rsplit_once.ensures.cases c.in-Some.is c.strip_suffix.ensures.cases c.in-Some-strip_suffix.is
    c.rsplit_once-2.ensures.cases c.in-None.is
