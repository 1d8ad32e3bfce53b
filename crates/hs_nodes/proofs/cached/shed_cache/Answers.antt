use Rattle.std.proofs.Common.{subst, sym}
use Rattle.hs_lazy.specs.Tables.{AreDfasOf}
use Rattle.hs_nodes.proofs.cached.shed_cache.Goals as goal

pub shed-requires : goal.shed-requires
shed-requires g c = record { dfas = subst (λ es. AreDfasOf g.E.Engine.meaning es c.args.cache.now.dfas) (sym c.deref.ensures.value) c.requires.dfas }

pub returns : goal.returns
returns g c = record {
  dfas = subst (λ es. AreDfasOf g.E.Engine.meaning es c.shed.new.self.dfas) c.deref.ensures.value c.shed.ensures.dfas;
  nodes = λ k number is. c.requires.nodes k number (c.shed.ensures.fewer k number is);
}
