use Rattle.device.proofs.Common.{map}
use Rattle.device.proofs.described.Opens.{opened_described, opened_scanned, opened_suits}
use Rattle.device.proofs.device.Device.open.Goals as goal

pub returns-clause-described : goal.returns-clause-described
returns-clause-described g c =
    opened_described c.args.config (map g.D.Die.state c.args.dies.now) c.requires.fit c.in_ok-found.found
    c.in_ok-found.ensures.found c.in_ok-found.ensures.settings c.from_found.result c.from_found.ensures.described

pub returns-clause-suits : goal.returns-clause-suits
returns-clause-suits g c =
    opened_suits c.args.config (map g.D.Die.state c.args.dies.now) c.requires.fit c.in_ok-found.found
    c.in_ok-found.ensures.found c.in_ok-found.ensures.settings c.from_found.result c.from_found.ensures.described

pub returns-clause-found : goal.returns-clause-found
returns-clause-found g c =
    opened_scanned c.args.config (map g.D.Die.state c.args.dies.now) c.in_ok-found.found
    (record {
      found = c.in_ok-found.ensures.found;
      stands = c.in_ok-found.ensures.stands;
      read_settings = c.in_ok-found.ensures.read;
      settings = c.in_ok-found.ensures.settings;
    }) c.from_found.result c.from_found.ensures.found
