-- What the tests run.
use Rattle.std.specs.Prelude.{◌≡◌}
use Rattle.progress_tests.specs.declared.words.Scene.{Scene}

-- the shape has the stages and machines of the tree
pub record IsScene (scene : Scene) : Type 0 where
  pub stages : scene.shape.stages ≡ scene.fan.stages
  pub machines : scene.shape.machines ≡ scene.fan.machines
