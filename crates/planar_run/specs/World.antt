-- The world of a script: what its lines have built so far, and its observers.
use Rattle.std.specs.Prelude.{ℕ, Bool, true, false, not, List, [], Option, Some, map, if◌then◌else◌}
use Rattle.edit_steps.specs.Layer.{Layer, empty_layer}
use Rattle.slab_laws.specs.declared.names.Strategy.{Strategy}

-- an observer while it waits: whether it tells a view, and how many notes it still hears, where it counts them (this project)
pub record Waiting : Type 0 where
  pub tells : Bool
  pub left : Option ℕ

-- a seat: the observer's name, in how many rounds it joins and leaves, where that is planned, and what it is as it waits (this project)
pub record Seat : Type 0 where
  pub name : ℕ
  pub join : Option ℕ
  pub leave : Option ℕ
  pub tells : Bool
  pub left : Option ℕ

-- one of the two layers, with its observers
pub record Half : Type 0 where
  pub layer : Layer
  -- the observers that are seated, and those whose join is planned, in the order of the lines that attached them
  pub seats : List Seat

pub record World : Type 0 where
  -- the layer that lines mean, and its seats
  pub layer : Layer
  pub seats : List Seat
  -- each observer that was handed in, while it waits; none where it is seated, planned or gone
  pub waiting : List (Option Waiting)
  -- the layer that they don't mean
  pub other : Half
  -- whether they mean the blue layer
  pub is_blue : Bool
  -- by which way points are located: no reply depends on it, only whether a line may find no memory
  pub strategy : Strategy

abbrev pub first_half : Half
first_half = record { layer = empty_layer 1; seats = [] }

-- before the first line points are located as the words say, all observers wait, lines mean the red layer, and the first curve of each layer gets the number 1
abbrev pub first_world : Strategy → List Waiting → World
first_world strategy observers = record {
  layer = first_half.layer;
  seats = first_half.seats;
  waiting = map Some observers;
  other = first_half;
  is_blue = false;
  strategy = strategy;
}

-- the layer that lines mean, with its observers
abbrev pub current : World → Half
current world = record { layer = world.layer; seats = world.seats }

-- the red layer, and the blue one
abbrev pub red_of : World → Half
red_of world = if world.is_blue then world.other else current world

abbrev pub blue_of : World → Half
blue_of world = if world.is_blue then current world else world.other

-- the world in which lines mean the layer that they didn't
abbrev pub exchanged : World → World
exchanged world = record {
  layer = world.other.layer;
  seats = world.other.seats;
  waiting = world.waiting;
  other = current world;
  is_blue = not world.is_blue;
  strategy = world.strategy;
}

-- the world in which lines mean the blue layer, or the red one
abbrev pub turned : Bool → World → World
turned true world = if world.is_blue then world else exchanged world
turned false world = if world.is_blue then exchanged world else world
